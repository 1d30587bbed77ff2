use Rattle.std.proofs.Common.{◌≡◌, ℕ, ◌+◌, ◌-◌, List, [], ◌∷◌, ◌++◌, length, append_assoc, ap, ◌∙◌, sym, arith}
use Rattle.std.proofs.lemmas.List.{length_push}
use Rattle.binder.specs.Binding.{Binding}
use Rattle.lazy_rules.specs.Flight.{Batch, flight_end, new_batch}
use Rattle.seq_node.specs.Beginning.{begun, next_count}
use Rattle.seq_node.proofs.Beginning.{begun_next}
use Rattle.seq_node.proofs.Keeping.{end_push}
use Rattle.seq_node.proofs.begin.+begin_all.Goals as goal

pub begin_all-requires : goal.begin_all-requires
begin_all-requires t c =
    let flight : List Batch = c.args.binder.now.flight in
    let place = c.args.from + c.min-count.result in
    let long : length c.begin.new.self.flight ≡ length flight + 1 = ap (λ (b : Binding). length b.flight) c.begin.ensures ∙ length_push flight (new_batch c.args.from c.min-count.result) in (
      omega (arith, c.if-room-eq0.false, c.decreases),
      (
        omega (arith, long, c.requires.room, c.if-room-eq0.false),
        (ap (λ (b : Binding). flight_end place b.flight) c.begin.ensures ∙ end_push place flight c.args.from c.min-count.result, c.requires.within),
      ),
    )

pub returns : goal.returns
returns t c =
    let b : Binding = c.args.binder.now in
    let from = c.args.from in
    let end = c.args.end in
    let limit = c.args.limit in
    let count = c.min-count.result in
    let rest = c.args.room - 1 in
    let more : List Batch = begun rest (from + count) end limit in
    let with_flight : List Batch → Binding = λ l. record b { flight = l } in
    let with_more : Binding → Binding = λ x. record x { flight = x.flight ++ more } in
    let count_is : next_count from end ≡ count = omega (arith, c.min-count.ensures) in
    let list : begun c.args.room from end limit ≡ new_batch from count ∷ more =
    begun_next c.args.room rest from end limit (omega (arith, c.if-room-eq0.false)) (omega (arith, c.if-from-limit.false))
    ∙ ap (λ (n : ℕ). new_batch from n ∷ begun rest (from + n) end limit) count_is in
    c.begin_all.ensures ∙ ap with_more c.begin.ensures
    ∙ ap with_flight (append_assoc b.flight (new_batch from count ∷ []) more ∙ sym (ap (λ (l : List Batch). b.flight ++ l) list))
