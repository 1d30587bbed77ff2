use Rattle.std.specs.Prelude.{ℕ, List, ◌++◌, codes, decimal}
use Rattle.serde_json.specs.Data.{Data, Members, member, no_members, number, object, unsigned}
use Rattle.load_gen.specs.declared.counts.Counts.{Counts}

-- The counts of a load as JSON.

-- a number under a name
abbrev pub named : List ℕ → ℕ → Members → Members
named name count more = member name (number (unsigned count)) more

-- the counts as a JSON object
abbrev pub summary_data : Counts → Data
summary_data c = object (
    named (codes "acked") c.acked (
    named (codes "answered") c.answered (
    named (codes "events") c.events (
    named (codes "invoked") c.invoked (
    named (codes "lawful") c.lawful (
    named (codes "messages") c.messages (
    named (codes "refused") c.refused (
    named (codes "rejected") c.rejected no_members))))))))

-- the object's text, without spaces
abbrev pub summary_text : Counts → List ℕ
summary_text c =
    codes "{\"acked\":" ++ (decimal c.acked
    ++ (codes ",\"answered\":" ++ (decimal c.answered
    ++ (codes ",\"events\":" ++ (decimal c.events
    ++ (codes ",\"invoked\":" ++ (decimal c.invoked
    ++ (codes ",\"lawful\":" ++ (decimal c.lawful
    ++ (codes ",\"messages\":" ++ (decimal c.messages
    ++ (codes ",\"refused\":" ++ (decimal c.refused
    ++ (codes ",\"rejected\":" ++ (decimal c.rejected ++ codes "}")))))))))))))))
