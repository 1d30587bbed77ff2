-- A step of a client touches no replica and no controller: with what it tells, all goes on being said.
use Rattle.std.proofs.Common.{◌≡◌, ℕ, ◌<◌, ◌≤◌, List, [], ◌∷◌, ◌++◌, inl, inr, refl, sym, subst, arith, append-nil}
use Rattle.list_facts.specs.Lists.{In}
use Rattle.rec_id.specs.declared.event.Event.{Event}
use Rattle.rec_id.specs.declared.event.Event.TheVariants.{Begin}
use Rattle.view_config.specs.Shape.{Dimensions}
use Rattle.lazy_rules.specs.SeqState.{SeqState}
use Rattle.lazy_rules.specs.ShardState.{ShardState}
use Rattle.log_facts.specs.Agreed.{Agreed}
use Rattle.log_facts.specs.Finality.{IsFinal, line_ids}
use Rattle.log_facts.specs.Ghosts.{Ghost, Log, Probed}
use Rattle.log_facts.specs.Growth.{HistoryGrows, LogGrows, NodeGrows, OrderGrows, SeqGrows, ShardGrows, StaysFinal}
use Rattle.log_facts.specs.Parts.{Parts}
use Rattle.log_facts.proofs.telling.Told.{Tells, fresh}

-- what doesn't change grows
pub seq_same : (s : SeqState) → SeqGrows s s
seq_same s = record {
  view = omega arith;
  barred = omega arith;
  unbarred = λ below. absurd (omega arith);
  bound = λ same. omega arith;
  sealed = λ same sealed. record { sealed = sealed; bound = refl; window = refl; pending = refl };
}

pub order_same : (s : ShardState) → OrderGrows s s
order_same s = record { longer = omega arith; signs = λ place sign decided at. at; placed = omega arith; flushed = λ none. none }

pub shard_same : (s : ShardState) → ShardGrows s s
shard_same s = record { view = omega arith; stable = omega arith; floor = omega arith; order = λ same. order_same s }

pub log_same : (seqs : ℕ → SeqState) (log : Log) → LogGrows seqs log log
log_same seqs log = record {
  line = record { rest = []; is = sym (append-nil log.line) };
  low = omega arith;
  given = λ one i. i;
  probed = λ one i. i;
  silent = λ one i. inl i;
}

pub history_same : (probed : List Probed) (history : List Event) → HistoryGrows probed history history
history_same probed history = record {
  told = [];
  is = sym (append-nil history);
  unbegun = λ client read ask i. absurd i;
  unread = λ client read ask i. absurd i;
}

-- replicas as they were, with what was told
grows_by : (g : Ghost) (a b : Parts) → HistoryGrows g.log.probed a.history b.history → b.seqs ≡ a.seqs → b.shards ≡ a.shards → NodeGrows g.views g.log g.log a b
grows_by g a b history seqs shards = record {
  history = history;
  logs = log_same a.seqs g.log;
  seqs = λ node. subst (λ (s : ℕ → SeqState). SeqGrows (a.seqs node) (s node)) (sym seqs) (seq_same (a.seqs node));
  lines = λ node id live i. subst (λ (s : ℕ → SeqState). In id (line_ids g.log.line (s node))) (sym seqs) i;
  shards = λ d. subst (λ (s : ℕ → ShardState). ShardGrows (a.shards d) (s d)) (sym shards) (shard_same (a.shards d));
  finals = subst (λ (s : ℕ → ShardState). (d place : ℕ) → 1 ≤ (s d).view → place < g.log.low → IsFinal g.views g.log.high (s d).view place → StaysFinal g.views g.log.high place (a.shards d) (s d)) (sym shards) (λ d place some below final. record { some = some; final = final; same = refl });
}

pub unchanged_grows : (g : Ghost) (a b : Parts) → b.history ≡ a.history → b.seqs ≡ a.seqs → b.shards ≡ a.shards → NodeGrows g.views g.log g.log a b
unchanged_grows g a b history seqs shards = grows_by g a b (subst (HistoryGrows g.log.probed a.history) (sym history) (history_same g.log.probed a.history)) seqs shards

module _ (shape : Dimensions) (g : Ghost) (a : Parts) (event : Event) (agreed : Agreed shape g a) (tells : Tells shape g a event) where
  history_told : HistoryGrows g.log.probed a.history (a.history ++ event ∷ [])
  history_told = record {
    told = event ∷ [];
    is = refl;
    unbegun = fresh shape g a event agreed tells;
    unread = λ client read ask i. (tells.begins client read ask (alone (Begin client read ask) i)).unread;
  }
    where
      alone : (other : Event) → In other (event ∷ []) → event ≡ other
      alone other (inl e) = e
      alone other (inr i) = absurd i

  pub told_grows : (b : Parts) → b.history ≡ a.history ++ event ∷ [] → b.seqs ≡ a.seqs → b.shards ≡ a.shards → NodeGrows g.views g.log g.log a b
  told_grows b history seqs shards = grows_by g a b (subst (HistoryGrows g.log.probed a.history) (sym history) history_told) seqs shards
