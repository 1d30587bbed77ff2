-- What code finds by keys are the first numbers of messages.
use Rattle.std.proofs.Common.{◌≡◌, ◌≢◌, ◌<◌, ◌≤◌, ◌+◌, ◌*◌, ◌^◌, ℕ, zero, suc, List, [], ◌∷◌, length, map, take, Option, Some, None, inl, inr, refl, sym, ap, ◌∙◌, subst, arith}
use Rattle.std.specs.Prelude.{slice_get, IsSomeAnd}
use Rattle.std.proofs.lemmas.Option.{slice_get_within}
use Rattle.list_facts.specs.Lists.{Each, In}
use Rattle.list_facts.proofs.Members.{each_in, in_each, in_mapped}
use Rattle.list_facts.proofs.Places.{at_in, each_at, in_at}
use Rattle.view_config.specs.declared.nodes.TheConstants.{FIRST_SHARD}
use Rattle.lazy_msgs.specs.declared.diary.Diary.{Diary}
use Rattle.lazy_msgs.specs.declared.diary.DiaryEntry.{DiaryEntry}
use Rattle.lazy_msgs.specs.declared.limits.TheConstants.{TIME_LIMIT}
use Rattle.lazy_msgs.specs.declared.msg.Envelope.{Envelope}
use Rattle.lazy_msgs.specs.declared.msg.Msg.{Msg}
use Rattle.lazy_msgs.specs.declared.msg.Msg.TheVariants.{Claim}
use Rattle.diary_laws.specs.Merges.{IsFirstNumber, Ranked, sent_by}
use Rattle.diary_merge.specs.Acts.{Act, AreNumbered, IsThere, IsTimely, act_at, act_from, acts_at, key_at}
use Rattle.diary_merge.specs.Numbering.{ClaimsThere, IsClaimNumber, IsFirstPlace, IsKeyed}
use Rattle.diary_merge.specs.declared.place.Place.{Place}
use Rattle.diary_merge.specs.declared.place.TheConstants.{NODES}
use Rattle.diary_merge.proofs.Acts.{there_key, word_key}
use Rattle.diary_merge.proofs.FirstNumbers.{Apart, IsSend, envelope_of, first_at, first_sent, sent_by_one}
use Rattle.diary_merge.proofs.Walks.{act_there, starts_at}

-- where keys rise, no two places have one
same_key : (places : List Place) → Ranked (λ (p q : Place). p.key < q.key) places → (i j : ℕ) (p q : Place) → slice_get places i ≡ Some p → slice_get places j ≡ Some q → p.key ≡ q.key → p ≡ q
same_key [] up i j p q a b same = cc
same_key (x ∷ xs) up zero zero p q a b same = let e : x ≡ p = cc in let f : x ≡ q = cc in sym e ∙ f
same_key (x ∷ xs) up zero (suc j) p q a b same = let e : x ≡ p = cc in let lt = each_at (λ (y : Place). x.key < y.key) xs up.0 j q b in let key : x.key ≡ p.key = ap (λ (y : Place). y.key) e in absurd (omega arith)
same_key (x ∷ xs) up (suc i) zero p q a b same = let e : x ≡ q = cc in let lt = each_at (λ (y : Place). x.key < y.key) xs up.0 i p a in let key : x.key ≡ q.key = ap (λ (y : Place). y.key) e in absurd (omega arith)
same_key (x ∷ xs) up (suc i) (suc j) p q a b same = same_key xs up.1 i j p q a b same

apart_all : (diaries : List Diary) (places : List Place) → Each (IsThere diaries) places → Ranked (λ (p q : Place). p.key < q.key) places → Ranked Apart (acts_at diaries places)
apart_all diaries [] there up = tt
apart_all diaries (p ∷ ps) there up = (each p ps there.0 there.1 up.0, apart_all diaries ps there.1 up.1)
  where
    each : (p : Place) (qs : List Place) → IsThere diaries p → Each (IsThere diaries) qs → Each (λ (q : Place). p.key < q.key) qs → Each (Apart (act_at diaries p)) (acts_at diaries qs)
    each p [] here there up = tt
    each p (q ∷ qs) here there up = (
      λ same.
          let a = there_key diaries p here in
          let b = there_key diaries q there.0 in
          let time = same.0 in
          let node = same.1 in
          let lt = up.0 in
          absurd (omega arith),
      each p qs here there.1 up.1,
    )

module _ (diaries : List Diary) (places : List Place) (starts : List ℕ) (there : Each (IsThere diaries) places) (h : AreNumbered diaries places starts) where
  abbrev acts : List Act
  acts = acts_at diaries places

  timely_at : (place : Place) → In place places → IsTimely (act_at diaries place)
  timely_at place among = let k = at_in places place among in each_at IsTimely acts h.timely k.0 (act_at diaries place) (act_there diaries places k.0 place k.1)

  key_of_act : (place : Place) → In place places → place.key ≡ key_at (act_at diaries place).time (act_at diaries place).node
  key_of_act place among =
      let timely = timely_at place among in
      there_key diaries place (each_in (IsThere diaries) places there place among) ∙ word_key (act_at diaries place).time (act_at diaries place).node timely.early timely.few

  -- the place of the step that sent a message
  pub record IsSender (e : Envelope) : Type 0 where
    pub place : Place
    pub among : In place places
    pub keyed : place.key ≡ key_at e.time e.from
    pub early : e.time < TIME_LIMIT
    pub few : e.from < NODES
    pub send : In (e.to, e.msg) (act_at diaries place).row.sends

  pub sender : (e : Envelope) → In e (sent_by acts) → IsSender e
  sender e sent =
      let by = sent_by_one acts e sent in
      let at = in_mapped (act_at diaries) by.act places by.there in
      let timely = timely_at at.0 at.1 in
      let node : (act_at diaries at.0).node ≡ e.from = ap (λ (a : Act). a.node) at.2 ∙ by.own.0 in
      let time : (act_at diaries at.0).time ≡ e.time = ap (λ (a : Act). a.time) at.2 ∙ by.own.1 in
      record {
        place = at.0;
        among = at.1;
        keyed = key_of_act at.0 at.1 ∙ ap (λ t. key_at t (act_at diaries at.0).node) time ∙ ap (key_at e.time) node;
        early = subst (λ t. t < TIME_LIMIT) time timely.early;
        few = subst (λ n. n < NODES) node timely.few;
        send = subst (λ (a : Act). In (e.to, e.msg) a.row.sends) (sym at.2) by.send;
      }

  -- no place has its key: then it wasn't sent
  pub unsent : (e : Envelope) → (Ranked (λ (p q : Place). p.key < q.key) places → e.time < TIME_LIMIT → e.from < NODES → Each (λ (place : Place). place.key ≢ key_at e.time e.from) places) → ¬ In e (sent_by acts)
  unsent e none sent =
      let by = sender e sent in
      each_in (λ (place : Place). place.key ≢ key_at e.time e.from) places (none h.rising by.early by.few) by.place by.among by.keyed

  pub unclaimed : (stable time node : ℕ) → (Ranked (λ (p q : Place). p.key < q.key) places → time < TIME_LIMIT → node < NODES → Each (λ (place : Place). place.key ≢ key_at time node) places) → ¬ ClaimsThere (sent_by acts) stable time node
  unclaimed stable time node none c =
      unsent c.claim (λ up early few. subst (λ (n : ℕ). Each (λ (place : Place). place.key ≢ key_at c.claim.time n) places) (sym c.by)
      (subst (λ (t : ℕ). Each (λ (place : Place). place.key ≢ key_at t node) places) (sym c.at) (none up (subst (λ (t : ℕ). t < TIME_LIMIT) c.at early) (subst (λ (n : ℕ). n < NODES) c.by few)))) c.there

  module _ (node time i : ℕ) (at : IsKeyed places node time i) where
    -- the step at that place is of that node and time
    own_act : ((act_at diaries at.place).node ≡ node) × ((act_at diaries at.place).time ≡ time)
    own_act =
        let among = in_at places i at.place at.there in
        let timely = timely_at at.place among in
        let early = timely.early in
        let few = timely.few in
        let key = key_of_act at.place among in
        let keyed = at.keyed in
        let low = at.few in
        (omega arith, omega arith)

    -- a message of that node and time was sent there
    sends_there : (e : Envelope) → e.from ≡ node → e.time ≡ time → In e (sent_by acts) → In (e.to, e.msg) (act_at diaries at.place).row.sends
    sends_there e from when sent =
        let by = sender e sent in
        let b = at_in places by.place by.among in
        let key : at.place.key ≡ by.place.key = at.keyed ∙ ap (λ t. key_at t node) (sym when) ∙ ap (key_at e.time) (sym from) ∙ sym by.keyed in
        let same = same_key places h.rising i b.0 at.place by.place at.there b.1 key in
        subst (λ (p : Place). In (e.to, e.msg) (act_at diaries p).row.sends) (sym same) by.send

    module _ (start k : ℕ) (from_start : slice_get starts i ≡ Some start) where
      sent_before : start ≡ length (sent_by (take i acts))
      sent_before =
          let few = h.few in
          let s = starts_at acts 0 i start (omega arith) (ap (λ (l : List ℕ). slice_get l i) (sym h.counted) ∙ from_start) in
          omega arith

      -- the first message of its kind there has that number first
      numbered : (e : Envelope) → IsSend acts e i k → (start + k + 1 < 2 ^ 32) × IsFirstNumber (sent_by acts) e (start + k + 1)
      numbered e is =
          let before = sent_before in
          let first = first_at acts (apart_all diaries places there h.rising) e i k is in
          let within = slice_get_within (sent_by acts) (length (sent_by (take i acts)) + k) e first in
          let few = h.few in
          (omega arith, first_sent acts (apart_all diaries places there h.rising) e i k (start + k + 1) (omega arith) is)

      numbered_send : (e : Envelope) → e.from ≡ node → e.time ≡ time → IsFirstPlace (λ (send : ℕ × Msg). send ≡ (e.to, e.msg)) (act_at diaries at.place).row.sends k → (start + k + 1 < 2 ^ 32) × IsFirstNumber (sent_by acts) e (start + k + 1)
      numbered_send e from when first =
          numbered e (record {
            act = act_at diaries at.place;
            there = act_there diaries places i at.place at.there;
            own = (own_act.0 ∙ sym from, own_act.1 ∙ sym when);
            sends = first.there ∙ ap Some first.is;
            first = first.first;
          })

      numbered_claim : (stable : ℕ) → IsFirstPlace (λ (send : ℕ × Msg). send.1 ≡ Claim stable) (act_at diaries at.place).row.sends k → (start + k + 1 < 2 ^ 32) × IsClaimNumber (sent_by acts) stable time node (start + k + 1)
      numbered_claim stable first =
          let e = envelope_of (act_at diaries at.place) first.member in
          let n = numbered e (record {
            act = act_at diaries at.place;
            there = act_there diaries places i at.place at.there;
            own = (refl, refl);
            sends = first.there;
            first = λ j send before is same. first.first j send before is (ap (λ (s : ℕ × Msg). s.1) same ∙ first.is);
          }) in
          (n.0, record { claim = e; by = own_act.0; at = own_act.1; says = first.is; numbered = n.1 })

    -- what isn't among the sends of that step wasn't sent
    unsent_there : (e : Envelope) → e.from ≡ node → e.time ≡ time → Each (λ (send : ℕ × Msg). send ≢ (e.to, e.msg)) (act_at diaries at.place).row.sends → ¬ In e (sent_by acts)
    unsent_there e from when none sent = each_in (λ (send : ℕ × Msg). send ≢ (e.to, e.msg)) (act_at diaries at.place).row.sends none (e.to, e.msg) (sends_there e from when sent) refl

    unclaimed_there : (stable : ℕ) → Each (λ (send : ℕ × Msg). send.1 ≢ Claim stable) (act_at diaries at.place).row.sends → ¬ ClaimsThere (sent_by acts) stable time node
    unclaimed_there stable none c = each_in (λ (send : ℕ × Msg). send.1 ≢ Claim stable) (act_at diaries at.place).row.sends none (c.claim.to, c.claim.msg) (sends_there c.claim c.by c.at c.there) c.says

    -- ---- the same, of the entry that code reads there
    module _ (owner : ℕ) (entry : DiaryEntry) (is : slice_get acts i ≡ Some (act_from owner entry)) where
      same_sends : entry.sends ≡ (act_at diaries at.place).row.sends
      same_sends =
          let both : Some (act_from owner entry) ≡ Some (act_at diaries at.place) = sym is ∙ act_there diaries places i at.place at.there in
          let same : act_from owner entry ≡ act_at diaries at.place = cc in
          ap (λ (a : Act). a.row.sends) same

      pub send_missing : (e : Envelope) → e.from ≡ node → e.time ≡ time → Each (λ (send : ℕ × Msg). send ≢ (e.to, e.msg)) entry.sends → ¬ In e (sent_by acts)
      send_missing e from when none = unsent_there e from when (subst (Each (λ (send : ℕ × Msg). send ≢ (e.to, e.msg))) same_sends none)

      pub claim_missing : (stable : ℕ) → Each (λ (send : ℕ × Msg). send.1 ≢ Claim stable) entry.sends → ¬ ClaimsThere (sent_by acts) stable time node
      claim_missing stable none = unclaimed_there stable (subst (Each (λ (send : ℕ × Msg). send.1 ≢ Claim stable)) same_sends none)

      module _ (start k : ℕ) (from_start : slice_get starts i ≡ Some start) (number : Option ℕ) (fits : start + k + 1 < 2 ^ 32 → number ≡ Some (start + k + 1)) where
        pub send_found : (e : Envelope) → e.from ≡ node → e.time ≡ time → IsFirstPlace (λ (send : ℕ × Msg). send ≡ (e.to, e.msg)) entry.sends k → IsSomeAnd number (IsFirstNumber (sent_by acts) e)
        send_found e from when first =
            let n = numbered_send start k from_start e from when (subst (λ (sends : List (ℕ × Msg)). IsFirstPlace (λ (send : ℕ × Msg). send ≡ (e.to, e.msg)) sends k) same_sends first) in
            subst (λ (o : Option ℕ). IsSomeAnd o (IsFirstNumber (sent_by acts) e)) (sym (fits n.0)) n.1

        pub claim_found : (stable : ℕ) → IsFirstPlace (λ (send : ℕ × Msg). send.1 ≡ Claim stable) entry.sends k → IsSomeAnd number (IsClaimNumber (sent_by acts) stable time node)
        claim_found stable first =
            let n = numbered_claim start k from_start stable (subst (λ (sends : List (ℕ × Msg)). IsFirstPlace (λ (send : ℕ × Msg). send.1 ≡ Claim stable) sends k) same_sends first) in
            subst (λ (o : Option ℕ). IsSomeAnd o (IsClaimNumber (sent_by acts) stable time node)) (sym (fits n.0)) n.1
