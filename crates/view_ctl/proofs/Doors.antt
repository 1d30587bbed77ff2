-- What the door tests of marks, step by step, and that it knows no message of a node that isn't there.
use Rattle.std.proofs.Common.{◌≡◌, ℕ, suc, ◌+◌, ◌-◌, ◌*◌, ◌/◌, ◌<◌, true, false, None, refl, ap, arith}
use Rattle.std.specs.Prelude.{Bool, not, ◌&&◌, ◌||◌, nat_lt, if◌then◌else◌}
use Rattle.rec_id.specs.Marks.{bit_of}
use Rattle.rec_id.specs.declared.marks.Marks.{Marks}
use Rattle.lazy_msgs.specs.declared.msg.Msg.{Msg}
use Rattle.lazy_msgs.specs.declared.msg.Msg.TheVariants.{Probe, Part}
use Rattle.lazy_rules.specs.ControlRules.{control_row, control_took}
use Rattle.lazy_rules.specs.ControlState.{ControlState}
use Rattle.lazy_rules.specs.Door.{has_due_sender, has_none_below_one, is_turned_away}
use Rattle.lazy_rules.specs.Rows.{stays}
use Rattle.view_config.specs.Limits.{window_of}
use Rattle.view_config.specs.Shape.{node_of}
use Rattle.view_config.specs.declared.edition.Edition.{Edition}
use Rattle.view_config.specs.declared.edition.Edition.TheVariants.{One, Two}

-- nobody is due as a sender who is no node
no_due_sender : (msg : Msg) → has_due_sender None msg ≡ false
no_due_sender (Probe view read) = refl
no_due_sender (Part read from end entries) = refl
no_due_sender _ = refl

pub stranger_stays : (k : ControlState) (sender : ℕ) (msg : Msg) → node_of k.shape sender ≡ None → control_took k sender msg ≡ stays k
stranger_stays k sender msg stranger = rw (stranger, no_due_sender msg) refl

same_either : {A : Type 0} (b : Bool) (x y : A) → y ≡ x → (if b then x else y) ≡ x
same_either true x y h = refl
same_either false x y h = h

-- a message that meets no row changes nothing, turned away or not
pub rowless_stays : (k : ControlState) (sender : ℕ) (msg : Msg) → control_row k sender msg ≡ stays k → control_took k sender msg ≡ stays k
rowless_stays k sender msg h = same_either (is_turned_away k.shape sender msg) (stays k) (control_row k sender msg) h

-- a window has whole words
pub whole_words : (edition : Edition) → 64 * (window_of edition / 64) ≡ window_of edition
whole_words One = refl
whole_words Two = refl

-- the test of the bits from place i on
pub none_below_step : (marks : Marks) (i count : ℕ) → i < count
    → has_none_below_one marks i (count - i) ≡ ((nat_lt i marks.top || not (bit_of marks.bits i)) && has_none_below_one marks (i + 1) (count - (i + 1)))
none_below_step marks i count less =
    let left : count - i ≡ suc (count - (i + 1)) = omega arith in
    ap (has_none_below_one marks i) left
