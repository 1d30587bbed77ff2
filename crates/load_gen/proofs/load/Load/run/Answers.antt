use Rattle.std.proofs.Common.{◌≡◌, ℕ, ◌+◌, ◌-◌, ◌∙◌, ap, subst, arith}
use Rattle.load_gen.specs.Loading.{Loaded, LoadState, Makes, many_steps, one_step}
use Rattle.load_gen.specs.declared.limits.TheConstants.{STEPS}
use Rattle.load_gen.specs.declared.load.Outcome.{Outcome}
use Rattle.load_gen.specs.declared.load.Outcome.TheVariants.{Through, Spent}
use Rattle.load_gen.proofs.Making.{Leads, begins, ends, goes_further, stops_there}
use Rattle.load_gen.proofs.load.Load.run.Goals as goal

-- the same number of steps is left
as_many : (whole : Loaded) (start l : LoadState) (n m : ℕ) → n ≡ m → Leads whole start l n → Leads whole start l m
as_many whole start l n m same = subst (Leads whole start l) same

-- what all steps give, by the number of those that are left
all_make : (start l : LoadState) (n m : ℕ) (outcome : Outcome) → n ≡ m → Makes (many_steps n start) start l outcome → Makes (many_steps m start) start l outcome
all_make start l n m outcome same = subst (λ (k : ℕ). Makes (many_steps k start) start l outcome) same

pub loop-i-init : goal.loop-i-init
loop-i-init c =
    let left = STEPS - c.steps-left.result in
    as_many (many_steps left c.args.self.now) c.args.self.now c.args.self.now left (left - 0) (omega arith) (begins left c.args.self.now)

pub returns-in-Spent : goal.returns-in-Spent
returns-in-Spent c =
    let left = STEPS - c.steps-left.result in
    let start = c.args.self.now in
    all_make start c.step.new.self left (STEPS - start.generator.steps) (Spent c.in-Spent.step)
    (ap (λ (n : ℕ). STEPS - n) (c.steps-left.ensures ∙ ap (λ (x : LoadState). x.generator.steps) c.self.view_is))
    (stops_there (many_steps left start) start c.loop-i.self c.step.new.self (left - c.loop-i._i) c.in-Spent.step (omega arith) c.loop-i.invariant
    (subst (Makes (one_step c.loop-i.self) c.loop-i.self c.step.new.self) c.in-Spent.is c.in_ok-step.ensures))

pub loop-i-preserved : goal.loop-i-preserved
loop-i-preserved c =
    let left = STEPS - c.steps-left.result in
    let start = c.args.self.now in
    as_many (many_steps left start) start c.step.new.self (left - c.loop-i._i - 1) (left - (c.loop-i._i + 1)) (omega arith)
    (goes_further (many_steps left start) start c.loop-i.self c.step.new.self (left - c.loop-i._i) (omega arith) c.loop-i.invariant
    (subst (Makes (one_step c.loop-i.self) c.loop-i.self c.step.new.self) c.in-Through.is c.in_ok-step.ensures))

pub returns : goal.returns
returns c =
    let left = STEPS - c.steps-left.result in
    let start = c.args.self.now in
    all_make start c.loop-i.self left (STEPS - start.generator.steps) Through
    (ap (λ (n : ℕ). STEPS - n) (c.steps-left.ensures ∙ ap (λ (x : LoadState). x.generator.steps) c.self.view_is))
    (ends (many_steps left start) start c.loop-i.self (as_many (many_steps left start) start c.loop-i.self (left - c.loop-i._i) 0 (omega arith) c.loop-i.invariant))
