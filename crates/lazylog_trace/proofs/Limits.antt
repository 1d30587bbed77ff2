use Rattle.std.proofs.Common.{◌≤◌, arith}
use Rattle.view_config.specs.declared.edition.Edition.{Edition}
use Rattle.view_config.specs.declared.edition.Edition.TheVariants.{One, Two}
use Rattle.view_config.specs.Limits.{line_limit}
use Rattle.lazylog_trace.specs.Trace.{bytes_limit}

-- no edition has longer lines
pub line_limit_most : (edition : Edition) → line_limit edition ≤ bytes_limit
line_limit_most One = omega arith
line_limit_most Two = omega arith
