-- Parts of rows, one after the other.
use Rattle.std.proofs.Common.{◌≡◌, ℕ, List, [], ◌∷◌, ◌++◌, true, false, Option, Some, None, sym, ap, ◌∙◌, refl}
use Rattle.std.proofs.lemmas.List.{append-nil, append_assoc, map-append}
use Rattle.std.specs.List.{slice_get}
use Rattle.rec_id.specs.declared.event.Event.{Event}
use Rattle.lazy_msgs.specs.declared.msg.Msg.{Msg}
use Rattle.lazy_msgs.specs.declared.msg.Msg.TheVariants.{Placed}
use Rattle.lazy_msgs.specs.Step.{Row}
use Rattle.lazy_rules.specs.Rows.{stays, answers, joined, followed, to_each}
use Rattle.lazy_rules.specs.ShardState.{ShardState, PlaceJob, FlushJob}
use Rattle.lazy_rules.specs.Store.{Store}
use Rattle.lazy_rules.specs.Pushing.{is_settled}
use Rattle.shard_node.specs.Seated.{Part, seated, row_of, ends}

-- a part that does nothing
pub followed_same : (r : Row ShardState) (f : ShardState → Row ShardState) → f r.next ≡ stays r.next → r ≡ followed r f
followed_same r f is =
    ap (λ (sends : List (ℕ × Msg)). let row : Row ShardState = record { next = r.next; sends = sends; events = r.events } in row) (sym (append-nil r.sends))
    ∙ ap (λ (events : List Event). let row : Row ShardState = record { next = r.next; sends = r.sends ++ []; events = events } in row) (sym (append-nil r.events))
    ∙ ap (λ (more : Row ShardState). joined r more) (sym is)

-- two parts are one
pub followed_twice : (r : Row ShardState) (f g : ShardState → Row ShardState) → followed (followed r f) g ≡ followed r (λ s. followed (f s) g)
followed_twice r f g =
    let first = f r.next in
    let second = g first.next in
    ap (λ (sends : List (ℕ × Msg)). let row : Row ShardState = record { next = second.next; sends = sends; events = (r.events ++ first.events) ++ second.events } in row) (append_assoc r.sends first.sends second.sends)
    ∙ ap (λ (events : List Event). let row : Row ShardState = record { next = second.next; sends = r.sends ++ (first.sends ++ second.sends); events = events } in row) (append_assoc r.events first.events second.events)

-- the first job ends
pub ends_first : (part : Part) (store : Store) (job : PlaceJob) (jobs : List PlaceJob) (flush : Option FlushJob) (sends : List (ℕ × Msg)) → is_settled (seated part store (job ∷ jobs) flush) job.end ≡ true
    → followed (row_of (record { seat = part; store = store; jobs = job ∷ jobs; flush = flush; sends = sends })) ends
    ≡ followed (row_of (record { seat = part; store = store; jobs = jobs; flush = flush; sends = sends ++ (job.asker, Placed part.view job.end) ∷ [] })) ends
ends_first part store job jobs flush sends settled =
    let before = row_of (record { seat = part; store = store; jobs = job ∷ jobs; flush = flush; sends = sends }) in
    let answer = answers (seated part store jobs flush) job.asker (Placed part.view job.end) in
    let opened : ends before.next ≡ followed answer ends = rw settled refl in
    ap (λ (more : Row ShardState). joined before more) opened ∙ sym (followed_twice before (λ s. answer) ends)

-- no job is there, or the first one isn't settled
pub no_first : (part : Part) (store : Store) (jobs : List PlaceJob) (flush : Option FlushJob) → slice_get jobs 0 ≡ None → ends (seated part store jobs flush) ≡ stays (seated part store jobs flush)
no_first part store [] flush none = refl
no_first part store (job ∷ jobs) flush none = absurd cc

pub not_first : (part : Part) (store : Store) (jobs : List PlaceJob) (flush : Option FlushJob) (job : PlaceJob) → slice_get jobs 0 ≡ Some job → is_settled (seated part store jobs flush) job.end ≡ false
    → ends (seated part store jobs flush) ≡ stays (seated part store jobs flush)
not_first part store [] flush job first open_ = refl
not_first part store (other ∷ jobs) flush job first open_ =
    let is : other ≡ job = cc in
    let shut : is_settled (seated part store (other ∷ jobs) flush) other.end ≡ false = rw is open_ in
    rw shut refl

-- the same message to one node more
pub each_more : (sends : List (ℕ × Msg)) (nodes others : List ℕ) (last : ℕ) (msg : Msg) → nodes ≡ others ++ last ∷ []
    → (sends ++ to_each others msg) ++ (last, msg) ∷ [] ≡ sends ++ to_each nodes msg
each_more sends nodes others last msg is =
    append_assoc sends (to_each others msg) ((last, msg) ∷ [])
    ∙ ap (λ (more : List (ℕ × Msg)). sends ++ more) (sym (map-append (λ (node : ℕ). (node, msg)) others (last ∷ [])) ∙ ap (λ (l : List ℕ). to_each l msg) (sym is))
