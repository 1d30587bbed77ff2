-- Each kind of step keeps the rule of a link.
use Rattle.std.proofs.Common.{◌≡◌, ◌≢◌, ◌<◌, ℕ, ◌^◌, true, false, true≢false, List, [], ◌∷◌, ◌++◌, length, set, sym, refl, ap, ◌∙◌, ⊎_elim, append_assoc, arith}
use Rattle.std.proofs.lemmas.List.{append-nil, length_push, length-append}
use mathlib.Core.Option.{some, some-ne-none}
use lib.ListN.{get_elem?}
use Rattle.crossbeam_queue.specs.Fifo.{Pushes, Pops, Forks, Merges, Learns}
use Rattle.crossbeam_queue.proofs.Lists.{at_set, at_snoc}
use Rattle.link_queue.specs.declared.rule.Known.{Known}
use Rattle.link_queue.specs.Rule.{Bytes, Beginning, Ending, known, Puts, Takes, Fits, Linked, PutOf, TakeOf, Between}
use Rattle.link_queue.proofs.Views.{OfEach, each_set, at_end}

-- a put keeps what the other end knows
behind : (taker : ℕ) (taken items : List Bytes) (x : Bytes) (number : ℕ) (v : Known) → Takes taker taken items number v → Takes taker taken (items ++ x ∷ []) number v
behind taker taken items x number v t = record {
  own = t.own;
  all = t.all;
  since = record { rest = t.since.rest ++ x ∷ []; is = ap (λ l. l ++ x ∷ []) t.since.is ∙ append_assoc v.after_take t.since.rest (x ∷ []) };
}

-- and so does a take
ahead : (putter : ℕ) (sent items : List Bytes) (x : Bytes) (number : ℕ) (v : Known) → Puts putter sent (x ∷ items) number v → Puts putter sent items number v
ahead putter sent items x number v p = record {
  own = p.own;
  all = p.all;
  since = record { before = p.since.before ++ x ∷ []; is = p.since.is ∙ sym (append_assoc p.since.before (x ∷ []) items) };
}

-- an end that does nothing knows nothing that could be wrong
idle : (putter taker : ℕ) (sent taken items : List Bytes) (number : ℕ) (v : Known) → v.puts ≡ false → v.takes ≡ false → Fits putter taker sent taken items number v
idle putter taker sent taken items number v no_put no_take = record { puts = λ p. absurd (true≢false (sym p ∙ no_put)); takes = λ t. absurd (true≢false (sym t ∙ no_take)) }

-- no end has done anything yet, and the first may do both
pub begins : Linked [] (known true true [] [] [] [] ∷ [])
begins =
    let one : Known = known true true [] [] [] [] in
    record {
      putter = 0;
      taker = 0;
      sent = [];
      taken = [];
      order = refl;
      few = omega arith;
      ends = each_set (Fits 0 0 [] [] []) (one ∷ []) 0 one
          (record {
            puts = λ _. record { own = refl; all = refl; since = record { before = []; is = refl } };
            takes = λ _. record { own = refl; all = refl; since = record { rest = []; is = refl } };
          })
          (λ j u other e. absurd (other (at_end [] one u j (λ x. some-ne-none u (sym x)) e)));
    }

pub puts_one : (n number : ℕ) (v : Known) (x : Bytes) → v.puts ≡ true → length v.sent < 2 ^ 62 → Pushes Linked n number v x (PutOf v x)
puts_one n number v x may fits items views room h at =
    let mine = (h.ends number v at).puts may in
    let sent = h.sent ++ x ∷ [] in
    let more = items ++ x ∷ [] in
    let w : Known = known v.puts v.takes (v.sent ++ x ∷ []) more v.taken v.after_take in (
      w,
      record {
        putter = h.putter;
        taker = h.taker;
        sent = sent;
        taken = h.taken;
        order = ap (λ l. l ++ x ∷ []) h.order ∙ append_assoc h.taken items (x ∷ []);
        few = (let same : length v.sent ≡ length h.sent = ap length mine.all in omega (arith, length_push h.sent x));
        ends = each_set (Fits h.putter h.taker sent h.taken more) views number w
            (record {
              puts = λ _. record { own = mine.own; all = ap (λ l. l ++ x ∷ []) mine.all; since = record { before = []; is = refl } };
              takes = λ t. let k = behind h.taker h.taken items x number v ((h.ends number v at).takes t) in record { own = k.own; all = k.all; since = k.since };
            })
            (λ j u other e. record {
              puts = λ p. absurd (other (((h.ends j u e).puts p).own ∙ sym mine.own));
              takes = λ t. behind h.taker h.taken items x j u ((h.ends j u e).takes t);
            });
      },
      record { left = items; since = mine.since; now = refl },
    )

pub takes_one : (number : ℕ) (v : Known) → v.takes ≡ true → Pops Linked number v (TakeOf v)
takes_one number v may x items views h at =
    let mine = (h.ends number v at).takes may in
    let taken = h.taken ++ x ∷ [] in
    let w : Known = known v.puts v.takes v.sent v.after_put (v.taken ++ x ∷ []) items in (
      w,
      record {
        putter = h.putter;
        taker = h.taker;
        sent = h.sent;
        taken = taken;
        order = h.order ∙ sym (append_assoc h.taken (x ∷ []) items);
        few = h.few;
        ends = each_set (Fits h.putter h.taker h.sent taken items) views number w
            (record {
              puts = λ p. let k = ahead h.putter h.sent items x number v ((h.ends number v at).puts p) in record { own = k.own; all = k.all; since = k.since };
              takes = λ _. record { own = mine.own; all = ap (λ l. l ++ x ∷ []) mine.all; since = record { rest = []; is = sym (append-nil items) } };
            })
            (λ j u other e. record {
              puts = λ p. ahead h.putter h.sent items x j u ((h.ends j u e).puts p);
              takes = λ t. absurd (other (((h.ends j u e).takes t).own ∙ sym mine.own));
            });
      },
      record {
        left = items;
        since = mine.since;
        few = (let same : length v.taken ≡ length h.taken = ap length mine.all in
            let sent : length h.sent ≡ length (h.taken ++ x ∷ items) = ap length h.order in
            omega (arith, length_push v.taken x, length-append h.taken (x ∷ items), h.few));
        now = refl;
      },
    )

pub splits : (number : ℕ) (v : Known) → v.puts ≡ true → v.takes ≡ true → Forks Linked number v (known true false v.sent v.after_put [] []) (known false true [] [] v.taken v.after_take)
splits number v may_put may_take items views h at =
    let l : Known = known true false v.sent v.after_put [] [] in
    let r : Known = known false true [] [] v.taken v.after_take in
    let puts = (h.ends number v at).puts may_put in
    let takes = (h.ends number v at).takes may_take in
    let vs : List Known = set views number l in
    let Old : ℕ → Known → Type 0 = λ j u. (u.puts ≡ true → Puts h.putter h.sent items j u) × (u.takes ≢ true) in
    let old : OfEach Old vs = each_set Old views number l
    ((λ _. record { own = puts.own; all = puts.all; since = puts.since }), λ t. true≢false (sym t))
    (λ j u other e. ((h.ends j u e).puts, λ t. other (((h.ends j u e).takes t).own ∙ sym takes.own))) in
    record {
      putter = h.putter;
      taker = length vs;
      sent = h.sent;
      taken = h.taken;
      order = h.order;
      few = h.few;
      ends = λ j u e. ⊎_elim
          (λ (x : get_elem? vs j ≡ some u). record { puts = (old j u x).0; takes = λ t. absurd ((old j u x).1 t) })
          (λ (is : r ≡ u). record {
            puts = λ p. absurd (true≢false (sym (ap (λ (y : Known). y.puts) is ∙ p)));
            takes = λ t. record {
              own = at_end vs r u j (λ x. (old j u x).1 t) e;
              all = ap (λ (y : Known). y.taken) (sym is) ∙ takes.all;
              since = record { rest = takes.since.rest; is = takes.since.is ∙ ap (λ (y : Known). y.after_take ++ takes.since.rest) is };
            };
          })
          (at_snoc vs r u j e);
    }

pub joins : (number : ℕ) (v : Known) (other : ℕ) (u : Known) → v.puts ≡ true → u.takes ≡ true
    → Merges Linked number v other u (known true true v.sent v.after_put u.taken u.after_take) (known false false [] [] [] [])
joins number v other u may_put may_take items views h at two at' =
    let both : Known = known true true v.sent v.after_put u.taken u.after_take in
    let none : Known = known false false [] [] [] [] in
    let puts = (h.ends number v at).puts may_put in
    let vs : List Known = set views number both in
    let was : get_elem? views other ≡ some u = ⊎_elim (λ x. absurd (two x.0)) (λ x. x.1) (at_set views number other both u at') in
    let takes = (h.ends other u was).takes may_take in
    let Now : ℕ → Known → Type 0 = λ j y. j ≢ other → Fits h.putter number h.sent h.taken items j y in
    let now : OfEach Now vs = each_set Now views number both
    (λ _. record {
      puts = λ _. record { own = puts.own; all = puts.all; since = puts.since };
      takes = λ _. record { own = refl; all = takes.all; since = takes.since };
    })
    (λ j y _ e apart. record { puts = (h.ends j y e).puts; takes = λ t. absurd (apart (((h.ends j y e).takes t).own ∙ sym takes.own)) }) in
    record {
      putter = h.putter;
      taker = number;
      sent = h.sent;
      taken = h.taken;
      order = h.order;
      few = h.few;
      ends = each_set (Fits h.putter number h.sent h.taken items) vs other none (idle h.putter number h.sent h.taken items other none refl refl) (λ j y apart e. now j y e apart);
    }

pub sees_full : (number : ℕ) (v : Known) → v.puts ≡ true → Learns Linked number v (λ items. Ending items v.after_put)
sees_full number v may items views h at = ((h.ends number v at).puts may).since

pub sees_empty : (number : ℕ) (v : Known) → v.takes ≡ true → Learns Linked number v (λ items. Beginning v.after_take items)
sees_empty number v may items views h at = ((h.ends number v at).takes may).since

pub sees_between : (number : ℕ) (v : Known) → v.puts ≡ true → v.takes ≡ true → Learns Linked number v (Between v)
sees_between number v may_put may_take items views h at =
    let puts = (h.ends number v at).puts may_put in
    let takes = (h.ends number v at).takes may_take in
    record { order = puts.all ∙ h.order ∙ ap (λ l. l ++ items) (sym takes.all); put = puts.since; take = takes.since }
