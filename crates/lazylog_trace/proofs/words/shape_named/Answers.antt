use Rattle.std.proofs.Common.{rules}
use Rattle.view_config.specs.Shape.{Dimensions}
use Rattle.lazylog_trace.proofs.CommandLine.{HaveNumbers, AreWords, named_none, named_some}
use Rattle.lazylog_trace.proofs.words.shape_named.Goals as goal

abbrev read_of : goal.After-of → Dimensions
read_of c = record {
  edition = c.in_ok-edition.edition;
  mode = c.in_ok-edition.mode;
  seq = c.in_ok-number_at.field-0;
  spares = c.in_ok-number_at-2.field-0;
  shards = c.in_ok-number_at-3.field-0;
  copies = c.in_ok-number_at-4.field-0;
  clients = c.in_ok-number_at-5.field-0;
}

reads : (c : goal.After-of) → HaveNumbers c.args.words.now (read_of c)
reads c = record {
  mode = search rules;
  seq = search rules;
  spares = search rules;
  shards = search rules;
  copies = search rules;
  clients = search rules;
}

small : (c : goal.After-of) → AreWords (read_of c)
small c = record {
  seq = search rules;
  spares = search rules;
  shards = search rules;
  copies = search rules;
  clients = search rules;
}

pub returns-clause-some : goal.returns-clause-some
returns-clause-some c = named_some c.args.words.now (read_of c) c.of.result (reads c) c.of.ensures.value c.of.ensures.valid

pub returns-clause-none : goal.returns-clause-none
returns-clause-none c = named_none c.args.words.now (read_of c) c.of.result (reads c) (small c) c.of.ensures.valid
