-- What is promised of every world, all together.
use Rattle.std.proofs.Common.{◌≡◌, ℕ}
use Rattle.list_facts.specs.Lists.{In, Each}
use Rattle.view_config.specs.Shape.{Dimensions, IsShape}
use Rattle.world_facts.specs.Members.{Goes}
use Rattle.world_facts.specs.MembersOf.{PhaseNamed}
use Rattle.lazy_msgs.specs.declared.msg.Envelope.{Envelope}
use Rattle.lazy_rules.specs.Holders.{holders, holding}
use Rattle.lazy_rules.specs.WorldState.{WorldState}
use Rattle.log_facts.specs.Agreed.{Kept}
use Rattle.log_facts.specs.Ghosts.{Ghost}
use Rattle.log_facts.specs.Promises.{HolderPromises, PromisesKept}
use Rattle.log_facts.proofs.lines.Finals.{IsAgreed}
use Rattle.log_facts.proofs.lines.Spared.{holder_goes_on}
use Rattle.log_facts.proofs.promises.Agreement.{agreement, is_floored}
use Rattle.log_facts.proofs.promises.Data.{data_kept}
use Rattle.log_facts.proofs.promises.Known.{known}
use Rattle.log_facts.proofs.promises.Stable.{stable_below}
use Rattle.log_facts.proofs.promises.Trimmed.{trimmed}

module _ (shape : Dimensions) (w : WorldState) (formed : IsShape shape) (shaped : w.shape ≡ shape) (named : PhaseNamed shape w.control.phase) (goes : Each (λ (e : Envelope). Goes shape e.from e.to e.msg) w.sent) (kept : Kept shape w) where
  abbrev g : Ghost
  g = kept.ghost

  is : IsAgreed shape g w
  is = record { formed = formed; shaped = shaped; named = named; agreed = kept.holds.agreed }

  held_promises : (holder : ℕ) → In holder (holders w) → HolderPromises w holder
  held_promises holder h =
      let on = holder_goes_on shape g w kept.holds.agreed holder h in
      record {
        agreement = agreement shape g w is (holding w holder).bound on.least on.most;
        stable = stable_below shape g w is kept.holds.sent goes (holding w holder).bound on.least;
        kept = data_kept shape g w is kept.holds.sent (holding w holder).bound on.least on.most;
      }

  pub promises_kept : PromisesKept w
  promises_kept = record {
    known = known shape g w is;
    holder = λ holder h. held_promises holder h;
    floored = is_floored shape g w is;
    trimmed = trimmed shape g w is;
  }
