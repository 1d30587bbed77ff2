use Rattle.std.proofs.Common.{◌≡◌, IfOk, take, subst}
use Rattle.std.specs.List.{flat_map}
use Rattle.lazy_rules.specs.ClientRules.{sending}
use Rattle.lazy_rules.specs.ClientState.{ClientState}
use Rattle.append_client.proofs.client.AppendClient.sending_first.Goals as goal

pub returns : goal.returns
returns c =
    subst (λ (s : ClientState). IfOk c.sending_first.result (λ sends. sends ≡ flat_map (sending s) (take c.args.limit s.unfinished))) c.self.view_is
    c.sending_first.ensures
