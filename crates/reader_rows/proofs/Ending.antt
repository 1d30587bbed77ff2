-- A read or a trim ends: what the client has then, where the event that ends it may be told.
use Rattle.std.proofs.Common.{◌≡◌, ◌≢◌, ℕ, ◌≤◌, [], ◌∷◌, ◌++◌, Some, None, ◌⊎◌, inl, inr, sym, ap, ◌∙◌}
use Rattle.list_facts.specs.Lists.{In}
use Rattle.list_facts.proofs.Members.{in_more}
use Rattle.rec_id.specs.declared.event.Ask.{Ask}
use Rattle.rec_id.specs.declared.event.Event.{Event}
use Rattle.rec_id.specs.declared.event.Event.TheVariants.{Begin, TrimAsk}
use Rattle.rec_id.specs.History.{Read, asked_trim, begun_read, done_trim, ended_read, finished_id, invoked_id}
use Rattle.view_config.specs.Shape.{Dimensions}
use Rattle.lazy_rules.specs.ReaderState.{Idle, ReaderState}
use Rattle.log_facts.specs.Ghosts.{Ghost}
use Rattle.log_facts.specs.Good.{Moment}
use Rattle.log_facts.specs.Parts.{Parts}
use Rattle.log_facts.specs.facts.OfReads.{ReaderFacts}
use Rattle.log_facts.proofs.telling.Clients.{IsNoAppendOf, IsNoReadOf}
use Rattle.log_facts.proofs.telling.Told.{Tells}
use Rattle.reader_rows.proofs.Stepping.{KeepsTold}

-- an event of this client's read or trim, which doesn't begin one
pub record EndsOwn (c number : ℕ) (event : Event) : Type 0 where
  pub begins : begun_read event ≡ None
  pub asks : asked_trim event ≡ None
  pub invokes : invoked_id event ≡ None
  pub finishes : finished_id event ≡ None
  pub read : (read : Read) → ended_read event ≡ Some read → read.client ≡ c
  pub trim : (read : Read) → done_trim event ≡ Some read → read.client ≡ c

-- nobody else's read, and nobody's append
pub others_apart : (c number : ℕ) (event : Event) → EndsOwn c number event → (n : ℕ) → n ≢ c → IsNoReadOf event n
others_apart c number event own n other = record {
  begins = λ read ask is. let wrong : None ≡ Some (record { client = n; number = read }) = sym own.begins ∙ ap begun_read is in cc;
  asks = λ read floor is. let wrong : None ≡ Some (record { client = n; number = read }, floor) = sym own.asks ∙ ap asked_trim is in cc;
  ends = λ read is. other (own.read (record { client = n; number = read }) is);
  done = λ read is. other (own.trim (record { client = n; number = read }) is);
}

pub appends_apart : (c number : ℕ) (event : Event) → EndsOwn c number event → (n : ℕ) → IsNoAppendOf event n
appends_apart c number event own n = record {
  invoked = λ id bytes is. let wrong : None ≡ Some id = sym own.invokes ∙ ap invoked_id is in cc;
  ended = λ id is. let wrong : None ≡ Some id = sym own.finishes ∙ is in cc;
}

module _ (shape : Dimensions) (g : Ghost) (a : Parts) (c : ℕ) (moment : Moment shape g a) (r : ReaderState) (facts : ReaderFacts g.views a.history c r) where
  -- with nothing outstanding, and this reach
  abbrev over : ℕ → ReaderState
  over reach = record r { stage = Idle; reach = reach }

  module _ (number : ℕ) (event : Event) (own : EndsOwn c number event) (tells : Tells shape g a event) (reach : ℕ) (below : reach ≤ g.log.low) where
    facts_over : ReaderFacts g.views (a.history ++ event ∷ []) c (over reach)
    facts_over = record {
      config = facts.config;
      reads = λ read ask i. by read ask (in_more (Begin c read ask) event a.history i);
      trims = λ read floor i. by_trim read floor (in_more (TrimAsk c read floor) event a.history i);
      stage = tt;
    }
      where
        by : (read : ℕ) (ask : Ask) → In (Begin c read ask) a.history ⊎ (event ≡ Begin c read ask) → read ≤ r.count
        by read ask (inl i) = facts.reads read ask i
        by read ask (inr is) = let wrong : None ≡ Some (record { client = c; number = read }) = sym own.begins ∙ ap begun_read is in cc

        by_trim : (read floor : ℕ) → In (TrimAsk c read floor) a.history ⊎ (event ≡ TrimAsk c read floor) → read ≤ r.count
        by_trim read floor (inl i) = facts.trims read floor i
        by_trim read floor (inr is) = let wrong : None ≡ Some (record { client = c; number = read }, floor) = sym own.asks ∙ ap asked_trim is in cc

    pub over_keeps : KeepsTold shape g a c moment (over reach) event
    over_keeps = record {
      facts = facts_over;
      notes = record { reach = below; stage = tt };
      tells = tells;
      others = others_apart c number event own;
      no_append = appends_apart c number event own;
    }
