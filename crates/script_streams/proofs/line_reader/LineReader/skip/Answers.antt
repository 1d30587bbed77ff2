use Rattle.std.proofs.Common.{◌+◌, ◌-◌, ◌≤◌, ℕ, List, ap, ◌∙◌, arith, length, drop, length-take, length-drop}
use Rattle.script_streams.specs.Reading.{Reading}
use Rattle.script_streams.proofs.Pieces.{piece_rest}
use Rattle.script_streams.proofs.line_reader.LineReader.skip.Goals as goal

pub returns : goal.returns
returns c =
    let buffer = c.self.inside.buffer.items in
    let from = c.self.inside.from in
    let to = c.self.inside.to in
    let size = ap (λ (r : Reading). length r.ahead) c.self.view_is in
    let ordered = c.self.invariant.0 in
    let within : from + c.args.count ≤ to = omega (arith, c.requires, size, length-take (to - from) (drop from buffer), length-drop from buffer) in
    ap (λ (ahead : List ℕ). let made : Reading = record { most = c.self.inside.most; line = c.self.inside.line.items; ahead = ahead } in made) (piece_rest buffer from to c.args.count within)
    ∙ ap (λ (r : Reading). let made : Reading = record r { ahead = drop c.args.count r.ahead } in made) c.self.view_is
