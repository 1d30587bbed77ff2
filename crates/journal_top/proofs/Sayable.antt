-- What a line of the script says, a line can say.
use Rattle.std.proofs.Common.{◌≡◌, ◌≢◌, ℕ, ◌<◌, ◌≤◌, ◌^◌, Bool, true, false, List, [], ◌∷◌, length, ◌&&◌, Option, Some, None, arith}
use Rattle.std.specs.Prelude.{◌==◌, IfSome, nat_le, nat_lt, if◌then◌else◌, codes, decimal, option_map, option_and_then}
use Rattle.std.specs.Str.{bytes_eq}
use Rattle.std.specs.Str.Parse.{digits_value}
use Rattle.std.proofs.lemmas.Bool.{and_parts, eqb-false, leb-true, ltb-true}
use Rattle.list_facts.proofs.Cases.{either}
use Rattle.rec_id.specs.Identity.{Identity, IsIdentity}
use Rattle.rec_id.specs.declared.item.Body.TheVariants.{Elsewhere, Kept, Noop}
use Rattle.rec_id.specs.declared.item.Cell.{Cell}
use Rattle.rec_id.specs.declared.limits.TheConstants.{MAX_CLIENT}
use Rattle.view_config.specs.declared.edition.Edition.TheVariants.{One}
use Rattle.view_config.specs.declared.limits.TheConstants.{RECORD_LIMIT_ONE}
use Rattle.lazy_msgs.specs.FrameLimits.{CellFits}
use Rattle.trace_script.specs.Script.{is_data, is_idle}
use Rattle.trace_script.specs.Words.{both, cut_by, number_of, parted_by, rest_after}
use Rattle.journal_script.specs.declared.command.Command.{Command}
use Rattle.journal_script.specs.declared.command.Command.TheVariants.{Nothing, Add, Stable, Keep, Show, Stop, Open}
use Rattle.journal_script.specs.Script.{IsSayable, alone, bare_of, bare_with, cell_of, cell_with, command_of, id_in, id_of, is_short_data, kept_of, kept_with, numbered, said_by, said_with, stop_at, stop_of}

abbrev IsWord : ℕ → Type 0
IsWord n = n < 2 ^ 32

abbrev AreWords : ℕ × ℕ → Type 0
AreWords numbers = IsWord numbers.0 × IsWord numbers.1

abbrev AreSayable : Option Command → Type 0
AreSayable said = IfSome said IsSayable

abbrev AreFit : Option Cell → Type 0
AreFit cell = IfSome cell (CellFits One)

number_small : (word : List ℕ) → IfSome (number_of word) IsWord
number_small word =
    let n : ℕ = digits_value 10 word in
    either (λ (said : Option ℕ). IfSome said IsWord) (bytes_eq word (decimal n) && nat_lt n (2 ^ 32)) (Some n) None (λ e. ltb-true n (2 ^ 32) (and_parts (bytes_eq word (decimal n)) (nat_lt n (2 ^ 32)) e).1) (λ e. tt)

behind : {A B : Type 0} (P : A → Type 0) (Q : B → Type 0) (next : A → Option B) (value : Option A) → ((a : A) → P a → IfSome (next a) Q) → IfSome value P → IfSome (option_and_then next value) Q
behind P Q next None each h = tt
behind P Q next (Some value) each h = each value h

mapped : {A B : Type 0} (P : A → Type 0) (Q : B → Type 0) (next : A → B) (value : Option A) → ((a : A) → P a → Q (next a)) → IfSome value P → IfSome (option_map next value) Q
mapped P Q next None each h = tt
mapped P Q next (Some value) each h = each value h

any : {A : Type 0} (value : Option A) → IfSome value (λ (a : A). Unit {0})
any None = tt
any (Some value) = tt

together : (first second : Option ℕ) → IfSome first IsWord → IfSome second IsWord → IfSome (both first second) AreWords
together (Some first) (Some second) p q = (p, q)
together (Some first) None p q = tt
together None second p q = tt

two_small : (text : List ℕ) → IfSome (parted_by 35 number_of number_of text) AreWords
two_small text =
    together (number_of (cut_by 35 text).0) (option_and_then number_of (cut_by 35 text).1) (number_small (cut_by 35 text).0)
    (behind (λ (word : List ℕ). Unit {0}) IsWord number_of (cut_by 35 text).1 (λ word h. number_small word) (any (cut_by 35 text).1))

id_in_fits : (numbers : ℕ × ℕ) → AreWords numbers → IfSome (id_in numbers) IsIdentity
id_in_fits (client, number) small =
    either (λ (said : Option Identity). IfSome said IsIdentity) (nat_le client MAX_CLIENT && nat_le 1 number) (Some (record { client = client; number = number })) None
    (λ e. let parts = and_parts (nat_le client MAX_CLIENT) (nat_le 1 number) e in record { client_in_range = leb-true client MAX_CLIENT parts.0; numbered = leb-true 1 number parts.1; number_in_range = small.1 }) (λ e. tt)

id_fits : (word : List ℕ) → IfSome (id_of word) IsIdentity
id_fits word =
    let numbers : Option (ℕ × ℕ) = option_and_then (parted_by 35 number_of number_of) (rest_after (codes "c") word) in
    behind AreWords IsIdentity id_in numbers id_in_fits
    (behind (λ (text : List ℕ). Unit {0}) AreWords (parted_by 35 number_of number_of) (rest_after (codes "c") word) (λ text h. two_small text) (any (rest_after (codes "c") word)))

kept_fits : (word bytes : List ℕ) → AreFit (kept_of word bytes)
kept_fits word bytes =
    behind IsIdentity (CellFits One) (kept_with bytes) (id_of word)
    (λ id fits. either AreFit (is_short_data bytes) (Some (record { id = id; body = Kept bytes })) None
    (λ e. record { id = fits; body = leb-true (length bytes) RECORD_LIMIT_ONE (and_parts (nat_le (length bytes) RECORD_LIMIT_ONE) (is_data bytes) e).0 }) (λ e. tt))
    (id_fits word)

bare_fits : (word : List ℕ) (mark : Option (List ℕ)) → AreFit (bare_with word mark)
bare_fits word None = mapped IsIdentity (CellFits One) (λ id. record { id = id; body = Elsewhere }) (id_of word) (λ id fits. record { id = fits; body = tt }) (id_fits word)
bare_fits word (Some []) = mapped IsIdentity (CellFits One) (λ id. record { id = id; body = Noop }) (id_of word) (λ id fits. record { id = fits; body = tt }) (id_fits word)
bare_fits word (Some (byte ∷ bytes)) = tt

cell_fits : (word : List ℕ) (rest : Option (List ℕ)) → AreFit (cell_with word rest)
cell_fits word None = bare_fits (cut_by 33 word).0 (cut_by 33 word).1
cell_fits word (Some bytes) = kept_fits word bytes

stop_sayable : (word : List ℕ) → AreSayable (stop_of word)
stop_sayable word =
    behind (λ (n : ℕ). Unit {0}) IsSayable stop_at (number_of word)
    (λ n h. either AreSayable (n == 0) None (Some (Stop n)) (λ e. tt) (λ e. let other : n ≢ 0 = eqb-false n 0 e in omega (arith, other)))
    (any (number_of word))

numbered_sayable : (word number : List ℕ) → AreSayable (numbered word number)
numbered_sayable word number =
    let stop = if bytes_eq word (codes "stop") then stop_of number else None in
    either AreSayable (bytes_eq word (codes "stable")) (option_map Stable (number_of number)) stop
    (λ e. mapped (λ (n : ℕ). Unit {0}) IsSayable Stable (number_of number) (λ n h. tt) (any (number_of number)))
    (λ e. either AreSayable (bytes_eq word (codes "stop")) (stop_of number) None (λ e. stop_sayable number) (λ e. tt))

alone_sayable : (word : List ℕ) → AreSayable (alone word)
alone_sayable word =
    let opens = if bytes_eq word (codes "open") then Some Open else None in
    let shows = if bytes_eq word (codes "show") then Some Show else opens in
    either AreSayable (bytes_eq word (codes "keep")) (Some Keep) shows (λ e. tt)
    (λ e. either AreSayable (bytes_eq word (codes "show")) (Some Show) opens (λ e. tt)
    (λ e. either AreSayable (bytes_eq word (codes "open")) (Some Open) None (λ e. tt) (λ e. tt)))

said_sayable : (word : List ℕ) (words : Option (List ℕ)) → AreSayable (said_with word words)
said_sayable word None = alone_sayable word
said_sayable word (Some words) =
    either AreSayable (bytes_eq word (codes "add")) (option_map Add (cell_of words)) (numbered word words)
    (λ e. mapped (CellFits One) IsSayable Add (cell_of words) (λ cell fits. fits) (cell_fits (cut_by 61 words).0 (cut_by 61 words).1))
    (λ e. numbered_sayable word words)

pub line_sayable : (line : List ℕ) → AreSayable (command_of line)
line_sayable line = either AreSayable (is_idle line) (Some Nothing) (said_with (cut_by 32 line).0 (cut_by 32 line).1) (λ e. tt) (λ e. said_sayable (cut_by 32 line).0 (cut_by 32 line).1)
