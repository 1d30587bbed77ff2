-- What becomes of frames, as a function of the words that are drawn.
use Rattle.std.specs.Prelude.{ℕ, ◌+◌, ◌*◌, ◌%◌, Bool, List, [], ◌∷◌, ◌++◌, length, Option, None, Some, IfSome, All, Contains, nat_lt, if◌then◌else◌}
use Rattle.rand_core.specs.Pcg32Seed.{pcg32_seed}
use Rattle.rand_pcg.specs.Lcg.{Lcg}
use Rattle.rand_pcg.specs.Pcg.{pcg32, pcg32_of_seed}
use Rattle.link_queue.specs.Rule.{Bytes}
use Rattle.chaos_net.specs.declared.fate.Fate.{Fate}
use Rattle.chaos_net.specs.declared.fate.Fate.TheVariants.{Dropped, Repeated, Delayed, Passed}

-- the generator, how many frames of a thousand are lost, and the frames that are held, oldest first
pub record Injector : Type 0 where
  pub generator : Lcg
  pub loss : ℕ
  pub held : List Bytes

-- nothing was drawn yet
abbrev pub fresh : ℕ → ℕ → ℕ → Injector
fresh seed node loss = record { generator = pcg32_of_seed (pcg32_seed 16 (seed + node)); loss = loss; held = [] }

-- the number that the next word gives, below 1000
abbrev pub drawn : Injector → ℕ
drawn c = (pcg32 c.generator).0 % 1000

abbrev pub after_draw : Injector → Injector
after_draw c = record c { generator = (pcg32 c.generator).1 }

abbrev pub fate_of : ℕ → ℕ → Fate
fate_of loss number =
    if nat_lt number loss then Dropped
    else (if nat_lt number (2 * loss) then Repeated
    else (if nat_lt number (3 * loss) then Delayed
    else Passed))

abbrev pub has_room : Injector → Bool
has_room c = nat_lt (length c.held) 16

abbrev pub holding : Injector → Bytes → Injector
holding c frame = record c { held = c.held ++ frame ∷ [] }

-- what is handed out of a frame with this fate, and the injector after it
abbrev pub dealt : Fate → Injector → Bytes → Option Bytes × Injector
dealt Dropped c frame = (None, c)
dealt Repeated c frame = (Some frame, if has_room c then holding c frame else c)
dealt Delayed c frame = if has_room c then (None, holding c frame) else (Some frame, c)
dealt Passed c frame = (Some frame, c)

-- a frame that is handed in
abbrev pub passed : Injector → Bytes → Option Bytes × Injector
passed c frame = dealt (fate_of c.loss (drawn c)) (after_draw c) frame

-- the oldest of these frames is handed out
abbrev pub oldest : Injector → List Bytes → Option Bytes × Injector
oldest c [] = (None, c)
oldest c (frame ∷ frames) = (Some frame, record c { held = frames })

abbrev pub given_again : Injector → Option Bytes × Injector
given_again c = oldest c c.held

-- each frame that is held is one of those that were given
abbrev pub HeldOf : List Bytes → Injector → Type 0
HeldOf given c = All (λ frame. Contains given frame) c.held

-- and so is the frame that is handed out
abbrev pub OutOf : List Bytes → Option Bytes → Injector → Type 0
OutOf given out c = IfSome out (λ frame. Contains given frame) × HeldOf given c
