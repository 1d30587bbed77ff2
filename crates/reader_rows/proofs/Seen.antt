-- What a client is shown of the order, as the sender of a claim has it.
use Rattle.std.proofs.Common.{◌≡◌, ℕ, zero, suc, ◌+◌, ◌-◌, ◌<◌, ◌≤◌, List, [], ◌∷◌, ◌++◌, length, Some, None, inl, inr, refl, sym, ap, ◌∙◌, subst, arith}
use Rattle.std.specs.Prelude.{drop, option_map, slice_get, slice_range, take}
use Rattle.std.proofs.lemmas.Bool.{cases_lt}
use Rattle.std.proofs.lemmas.List.{length-map}
use Rattle.list_facts.proofs.Puts.{put_same}
use Rattle.rec_id.specs.Identity.{Identity}
use Rattle.rec_id.specs.declared.event.Event.{Event}
use Rattle.rec_id.specs.declared.event.Event.TheVariants.{Seen}
use Rattle.rec_id.specs.declared.item.Cell.{Cell}
use Rattle.rec_id.specs.History.{end_of}
use Rattle.view_config.specs.Shape.{Dimensions}
use Rattle.lazy_rules.specs.ReaderState.{ReaderState}
use Rattle.lazy_rules.specs.WorldRules.{ids_in}
use Rattle.log_facts.specs.Ghosts.{Ghost}
use Rattle.log_facts.specs.Good.{Good, IsShown, Moment}
use Rattle.log_facts.specs.Parts.{Parts}
use Rattle.log_facts.specs.Signs.{IsPiece, ordered_at}
use Rattle.log_facts.specs.facts.OfShards.{FinalFacts, OrderFacts}
use Rattle.log_facts.proofs.Places.{at_take}
use Rattle.log_facts.proofs.telling.Clients.{IsNoReadOf, notes_told, reader_told}
use Rattle.log_facts.proofs.telling.Histories.{history_more, no_append, no_read, no_trim}
use Rattle.log_facts.proofs.telling.Told.{Tells}
use Rattle.reader_rows.proofs.Stepping.{telling_good}

at_drop : {A : Type 0} (n : ℕ) (xs : List A) (k : ℕ) (x : A) → slice_get (drop n xs) k ≡ Some x → slice_get xs (n + k) ≡ Some x
at_drop zero xs k x at = let same : 0 + k ≡ k = omega arith in subst (λ (i : ℕ). slice_get xs i ≡ Some x) (sym same) at
at_drop (suc n) [] k x at = cc
at_drop (suc n) (y ∷ xs) k x at = let same : suc n + k ≡ suc (n + k) = omega arith in subst (λ (i : ℕ). slice_get (y ∷ xs) i ≡ Some x) (sym same) (at_drop n xs k x at)

-- a member of a range stands in the list
range_at : {A : Type 0} (xs : List A) (from to k : ℕ) (x : A) → slice_get (slice_range xs from to) k ≡ Some x → (k < to - from) × (slice_get xs (from + k) ≡ Some x)
range_at xs from to k x at = let part = at_take (to - from) (drop from xs) k x at in (part.0, at_drop from xs k x part.1)

-- what the identities of cells are those of
id_at : (cells : List Cell) (k : ℕ) (id : Identity) → slice_get (ids_in cells) k ≡ Some id → (cell : Cell) × (slice_get cells k ≡ Some cell) × (cell.id ≡ id)
id_at [] k id at = cc
id_at (cell ∷ cells) zero id at = let both : Some cell.id ≡ Some id = at in (cell, refl, cc)
id_at (cell ∷ cells) (suc k) id at = id_at cells k id at

take_short : {A : Type 0} (n : ℕ) (xs : List A) → length (take n xs) ≤ n
take_short zero xs = omega arith
take_short (suc n) [] = omega arith
take_short (suc n) (x ∷ xs) = let short = take_short n xs in omega arith

module _ (shape : Dimensions) (g : Ghost) (a : Parts) (c from : ℕ) (ids : List Identity) (moment : Moment shape g a) (shown : IsShown shape a from ids) where
  abbrev event : Event
  event = Seen c from ids

  abbrev d : ℕ
  d = shown.node

  some : 1 ≤ (a.shards d).view
  some = moment.agreed.places.among.there d shown.replica

  finals : FinalFacts g.views g.log.low g.log.high (a.shards d)
  finals = moment.agreed.places.finals d some

  -- what lies below a stable number is the line's
  in_line : (place : ℕ) (id : Identity) → place < (a.shards d).store.stable → ordered_at (a.shards d) place ≡ Some id → slice_get g.log.line place ≡ Some id
  in_line place id below has =
      let facts : OrderFacts g.views g.log.line (a.shards d) = moment.agreed.places.orders d some in
      elim (cases_lt (a.shards d).view g.views.cur) [
        | inl earlier ↦ let closed = finals.closed earlier in facts.closed earlier place (omega arith) id has
        | inr now ↦ let known = (moment.agreed.shards.ranks d some).known in facts.live (omega arith) place id has
      ]

  piece : IsPiece g.log.line from ids
  piece k id at =
      let one = id_at (slice_range (a.shards d).store.order from shown.to) k id (subst (λ (xs : List Identity). slice_get xs k ≡ Some id) shown.is at) in
      let part = range_at (a.shards d).store.order from shown.to k one.0 one.1 in
      let within : k < shown.to - from = part.0 in
      let stable : shown.stable ≤ (a.shards d).store.stable = shown.claimed in
      let to = shown.within in
      in_line (from + k) id (omega arith) (ap (option_map (λ (cell : Cell). cell.id)) part.1 ∙ ap (λ (x : Identity). Some x) one.2)

  few : length ids ≤ shown.to - from
  few =
      let short = take_short (shown.to - from) (drop from (a.shards d).store.order) in
      let mapped : length (ids_in (slice_range (a.shards d).store.order from shown.to)) ≡ length (slice_range (a.shards d).store.order from shown.to) = length-map (slice_range (a.shards d).store.order from shown.to) (λ (cell : Cell). cell.id) in
      let same : length ids ≡ length (ids_in (slice_range (a.shards d).store.order from shown.to)) = ap length shown.is in
      omega arith

  end_below : (xs : List Identity) → length xs ≤ shown.to - from → end_of from xs ≤ g.log.low
  end_below [] is = omega arith
  end_below (x ∷ xs) is =
      let stable : shown.stable ≤ (a.shards d).store.stable = shown.claimed in
      let to = shown.within in
      let low = finals.stable in
      let forward = shown.forward in
      omega arith

  tells : Tells shape g a event
  tells = record {
    once = history_more shape a.history event (no_append shape a.history event refl refl) (no_read a.history event refl refl) (no_trim a.history event refl refl) moment.agreed.history;
    begins = λ client other asked is. cc;
    invokes = λ id bytes is. cc;
    ends = λ id is. let wrong : None ≡ Some id = is in cc;
    reaches = λ x is. let both : Some (end_of from ids) ≡ Some x = is in let same : end_of from ids ≡ x = cc in subst (λ (n : ℕ). n ≤ g.log.low) same (end_below ids few);
    acked = λ id apart is. cc;
    rejected = λ id place is. cc;
    trimmed = λ client other limit is. cc;
    answers = λ client other start entries tail is. cc;
    seen = λ client start others is. same_seen client start others is;
  }
    where
      same_seen : (client start : ℕ) (others : List Identity) → event ≡ Seen client start others → IsPiece g.log.line start others
      same_seen client start others is =
          let one : from ≡ start = cc in
          let two : ids ≡ others = cc in
          subst (λ (n : ℕ). IsPiece g.log.line n others) one (subst (IsPiece g.log.line from) two piece)

  no_read_of : (n : ℕ) → IsNoReadOf event n
  no_read_of n = record {
    begins = λ x ask is. cc;
    asks = λ x limit is. cc;
    ends = λ x is. let wrong : None ≡ Some (record { client = n; number = x }) = is in cc;
    done = λ x is. let wrong : None ≡ Some (record { client = n; number = x }) = is in cc;
  }

  pub seen_good : Good shape g a c (record a { history = a.history ++ event ∷ [] }) []
  seen_good =
      subst (λ (f : ℕ → ReaderState). Good shape g a c (record a { readers = f; history = a.history ++ event ∷ [] }) []) (put_same a.readers c)
      (telling_good shape g a c moment (a.readers c) event (record {
        facts = reader_told shape g a event moment.agreed tells c (a.readers c) (no_read_of c) (moment.agreed.clients.reads c);
        notes = notes_told shape g a event moment.agreed tells c (a.readers c) (moment.agreed.clients.reads c) (moment.agreed.clients.reads_noted c);
        tells = tells;
        others = λ n other. no_read_of n;
        no_append = λ n. record { invoked = λ id bytes is. cc; ended = λ id is. let wrong : None ≡ Some id = is in cc };
      }) [] tt)
