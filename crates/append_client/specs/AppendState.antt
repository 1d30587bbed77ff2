use Rattle.std.specs.Prelude.{ℕ, ◌||◌, ◌==◌, nat_le, if◌then◌else◌}
use Rattle.std.specs.Option.{is_some}
use Rattle.lazy_rules.specs.ClientRules.{place_of}
use Rattle.lazy_rules.specs.ClientState.{ClientState}
use Rattle.append_client.specs.declared.client.AppendState.{AppendState}
use Rattle.append_client.specs.declared.client.AppendState.TheVariants.{NotInvoked, Unfinished, Finished}

-- how far a client's append of this number has come
abbrev pub append_state : ClientState → ℕ → AppendState
append_state c number =
    if number == 0 || nat_le c.next number then NotInvoked
    else (if is_some (place_of c number) then Unfinished else Finished)
