-- What was found of one statement, of another that means the same.
use Rattle.std.proofs.Common.{ℕ, ◌<◌, Option, Some, None, inl, inr, arith}
use Rattle.rec_id.specs.Verdict.{IsPairBefore}
use Rattle.log_law.specs.Pairs.{IsFirstBreach, IsFound}

module _ (P Q : ℕ → ℕ → Type 0) (to : (i j : ℕ) → P i j → Q i j) (from : (i j : ℕ) → Q i j → P i j) where
  pub breach_like : (i j : ℕ) → IsFirstBreach P i j → IsFirstBreach Q i j
  breach_like i j b = record { broken = λ q. b.broken (from i j q); least = λ k l lt. to k l (b.least k l lt) }

  pub found_like : (o : Option (ℕ × ℕ)) → IsFound P o → IsFound Q o
  found_like None f = λ i j. to i j (f i j)
  found_like (Some p) b = breach_like p.0 p.1 b

-- of a statement on the first alone
pub alone : (P : ℕ → Type 0) (j : ℕ) → ((i : ℕ) → i < j → P i) → ¬ P j → IsFirstBreach (λ i _. P i) j 0
alone P j f n = record { broken = n; least = least }
  where
    least : (k l : ℕ) → IsPairBefore k l j 0 → P k
    least k l (inl lt) = f k lt
    least k l (inr e) = let wrong = e.1 in absurd (omega arith)
