-- What is known of every world that events lead to.
use Rattle.std.proofs.Common.{◌≤◌, List, sym, subst, arith}
use Rattle.view_config.specs.Shape.{Dimensions, IsShape}
use Rattle.lazy_msgs.specs.declared.input.Input.{Input}
use Rattle.lazy_msgs.specs.declared.input.WorldEvent.{WorldEvent}
use Rattle.lazy_rules.specs.ClientRules.{client_step}
use Rattle.lazy_rules.specs.ControlRules.{control_step}
use Rattle.lazy_rules.specs.ReaderRules.{reader_step}
use Rattle.lazy_rules.specs.SeqRules.{seq_step}
use Rattle.lazy_rules.specs.ShardRules.{shard_step}
use Rattle.lazy_rules.specs.WorldRules.{run}
use Rattle.lazy_rules.specs.WorldState.{WorldState, first_world}
use Rattle.world_facts.specs.Forms.{HasForm}
use Rattle.world_facts.specs.MembersOf.{HasMembers}
use Rattle.world_facts.proofs.Claims.{Always, Cases, Claims, nothing}
use Rattle.world_facts.proofs.Runs.{form_of_run, met_all, nothing_always, run_keeps}
use Rattle.world_facts.proofs.counts.Reader.{reader_counts}
use Rattle.world_facts.proofs.goes.All.{members_of_run}
use Rattle.world_facts.proofs.goes.Sends.{any}
use Rattle.lazy_core.specs.Reached.{IsReached}
use Rattle.lazy_core.specs.Turning.{IsKnown}

-- a client began no more reads and trims than there were events
abbrev reads_counted : Claims
reads_counted = record {
  client = λ n c s. Unit {0};
  reader = λ n c r. r.count ≤ n;
  control = λ n k. Unit {0};
  seq = λ n i s. Unit {0};
  shard = λ n i j s. Unit {0};
  sent = λ n sender to msg. Unit {0};
}

abbrev anything : Input → Type 0
anything input = Unit {0}

module _ (shape : Dimensions) (formed : IsShape shape) where
  counting : Cases shape anything nothing reads_counted
  counting = record {
    lasting = record {
      client = λ n c s h. tt;
      reader = λ n c r h. omega arith;
      control = λ n k h. tt;
      seq = λ n i s h. tt;
      shard = λ n i j s h. tt;
      sent = λ n sender to msg h. tt;
    };
    client = λ c few. record { first = tt; steps = λ n s input knew held given. record { next = tt; sends = any (client_step s input).sends } };
    reader = λ c few. record {
      first = omega arith;
      steps = λ n s input knew held given. record {
        next = (let step = reader_counts s input in let reads = step.reads in omega arith);
        sends = any (reader_step s input).sends;
      };
    };
    asking = λ n c few. tt;
    control = record { first = tt; steps = λ n s input knew held given. record { next = tt; sends = any (control_step s input).sends } };
    seq = λ i few. record { first = tt; steps = λ n s input knew held given. record { next = tt; sends = any (seq_step s input).sends } };
    shard = λ i j few some. record { first = tt; steps = λ n s input knew held given. record { next = tt; sends = any (shard_step s input).sends } };
  }

  counted_always : Always shape anything reads_counted
  counted_always = run_keeps shape formed anything nothing reads_counted counting (nothing_always shape anything)

  pub known_of_run : (events : List WorldEvent) → IsKnown (run events (first_world shape))
  known_of_run events =
      let w = run events (first_world shape) in
      let form = form_of_run shape events in
      record {
        formed = subst IsShape (sym form.shaped) formed;
        form = subst (λ (d : Dimensions). HasForm d w) (sym form.shaped) form;
        members = subst (λ (d : Dimensions). HasMembers d w) (sym form.shaped) (members_of_run shape events formed);
        reads = λ c r there. (counted_always.holds events (met_all events)).readers c r there;
      }

pub known_reached : (w : WorldState) → IsReached w → IsKnown w
known_reached w r = subst IsKnown (sym r.is) (known_of_run r.shape r.formed r.events)
