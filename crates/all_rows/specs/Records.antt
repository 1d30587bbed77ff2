use Rattle.std.specs.Prelude.{ℕ, List, Option}
use Rattle.list_facts.specs.Lists.{Each, In}
use Rattle.rec_id.specs.declared.entry.Entry.{Entry}
use Rattle.rec_id.specs.declared.entry.Entry.TheVariants.{Kept, Noop, Gone}
use Rattle.rec_id.specs.declared.event.Event.{Event}
use Rattle.rec_id.specs.declared.event.Event.TheVariants.{Answer, Invoke}

-- What answers may tell of a place: a record with the bytes of its append, or that there is none.
abbrev pub IsTold : List Event → Entry → Type 0
IsTold history (Kept id bytes) = In (Invoke id bytes) history
IsTold history (Noop id) = Unit {0}
IsTold history (Gone id) = ⊥

-- each answer tells nothing else
abbrev pub AreTold : List Event → Type 0
AreTold history =
    (client read from : ℕ) (entries : List Entry) (tail : Option ℕ) → In (Answer client read from entries tail) history → Each (IsTold history) entries
