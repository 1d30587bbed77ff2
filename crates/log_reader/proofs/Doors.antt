-- What the door does to a message.
use Rattle.std.proofs.Common.{◌≡◌, ℕ, List, Bool, true, false, refl, ap, ◌∙◌}
use Rattle.std.specs.Prelude.{not, if◌then◌else◌}
use Rattle.std.specs.List.{list_all}
use Rattle.rec_id.specs.declared.entry.Entry.{Entry}
use Rattle.view_config.specs.Shape.{node_of}
use Rattle.lazy_msgs.specs.declared.msg.Msg.{Msg}
use Rattle.lazy_msgs.specs.declared.msg.Msg.TheVariants.{Part}
use Rattle.lazy_rules.specs.Door.{has_client, is_shard_replica, is_turned_away, name_of}
use Rattle.lazy_rules.specs.ReaderRules.{on_part, reader_row, reader_took}
use Rattle.lazy_rules.specs.ReaderState.{ReaderState}
use Rattle.lazy_rules.specs.Rows.{stays}

same_both : {A : Type 0} (b : Bool) (x : A) → (if b then x else x) ≡ x
same_both true x = refl
same_both false x = refl

-- a message without a row changes nothing, whether or not it is turned away
pub rowless : (r : ReaderState) (sender : ℕ) (msg : Msg) → reader_row r sender msg ≡ stays r → reader_took r sender msg ≡ stays r
rowless r sender msg is =
    ap (λ row. if is_turned_away r.shape sender msg then stays r else row) is ∙ same_both (is_turned_away r.shape sender msg) (stays r)

-- a Part goes by two tests: whose it is, and whose records it has
abbrev shuts : Bool → Bool → Bool
shuts due named =
    if not due then true else (if not true then true else (if not named then true else (if not true then true else not true)))

lets_in : (due named : Bool) → due ≡ true → named ≡ true → shuts due named ≡ false
lets_in true true due named = refl
lets_in true false due named = absurd cc
lets_in false named is_due is_named = absurd cc

turns_away : (due named : Bool) → named ≡ false → shuts due named ≡ true
turns_away true false named = refl
turns_away true true named = absurd cc
turns_away false named is = refl

module _ (r : ReaderState) (sender number from end : ℕ) (entries : List (ℕ × Entry)) where
  abbrev due : Bool
  due = is_shard_replica (node_of r.shape sender)

  abbrev named : Bool
  named = list_all (λ placed. has_client r.shape (name_of placed.1)) entries

  pub part_taken : due ≡ true → named ≡ true → reader_took r sender (Part number from end entries) ≡ on_part r sender number from end entries
  part_taken is_due is_named =
      ap (λ (b : Bool). if b then stays r else on_part r sender number from end entries) (lets_in due named is_due is_named)

  pub part_turned_away : named ≡ false → reader_took r sender (Part number from end entries) ≡ stays r
  part_turned_away is =
      ap (λ (b : Bool). if b then stays r else on_part r sender number from end entries) (turns_away due named is)
