use Rattle.std.specs.Prelude.{ℕ}
use Rattle.view_config.specs.declared.edition.Edition.{Edition}
use Rattle.view_config.specs.declared.edition.Edition.TheVariants.{One, Two}
use Rattle.view_config.specs.declared.limits.TheConstants.{WINDOW_ONE, WINDOW_TWO, RECORD_LIMIT_ONE, RECORD_LIMIT_TWO, LINE_LIMIT_ONE, LINE_LIMIT_TWO}

-- how many consecutive numbers of a client may be unfinished
abbrev pub window_of : Edition → ℕ
window_of One = WINDOW_ONE
window_of Two = WINDOW_TWO

-- how many bytes of data a record may have
abbrev pub record_limit : Edition → ℕ
record_limit One = RECORD_LIMIT_ONE
record_limit Two = RECORD_LIMIT_TWO

-- how many bytes a line of a script may have, its newline not counted
abbrev pub line_limit : Edition → ℕ
line_limit One = LINE_LIMIT_ONE
line_limit Two = LINE_LIMIT_TWO
