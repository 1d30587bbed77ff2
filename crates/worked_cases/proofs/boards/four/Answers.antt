use Rattle.worked_cases.proofs.boards.four.Goals as goal

pub returns : goal.returns
returns g c made row =
    let fourth = c.in_ok-fourth.ensures made 3 row in
    let third = c.in_ok-third.ensures made 2 fourth.1 in
    let second = c.in_ok-second.ensures made 1 third.1 in
    let first = c.in_ok-first.ensures made 0 second.1 in
    (first.0, second.0, third.0, fourth.0)
