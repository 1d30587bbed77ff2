-- Each kind of step keeps the board.
use Rattle.std.proofs.Common.{◌≡◌, ◌≢◌, ◌⊎◌, ℕ, ◌+◌, ◌<◌, ◌≤◌, ◌^◌, max, List, [], ◌∷◌, ◌++◌, length, length-append, refl, sym, ap, ◌∙◌, subst, ⊎_elim, inl, inr, le_refl, arith, Some, Bool, true, false, zero, suc}
use Rattle.std.specs.Prelude.{slice_get, ◌==◌}
use Rattle.list_facts.specs.Lists.{In, put}
use Rattle.list_facts.proofs.Puts.{put_own, put_cases}
use Rattle.list_facts.proofs.Members.{in_left, in_last, in_more}
use Rattle.rec_id.specs.Identity.{Identity, IsIdentity, packed}
use Rattle.stable_board.specs.declared.claim.BoardClaim.{BoardClaim}
use Rattle.stable_board.specs.declared.views.Published.{Published}
use Rattle.stable_board.specs.declared.views.Peeked.{Peeked}
use Rattle.stable_board.specs.Claims.{packed_claim, claim_in}
use Rattle.stable_board.specs.Rule.{IsAt, IsRaised, WasRaised, IsSeen, WasVerified, IsBoard}
use Rattle.stable_board.specs.Steps.{with_verified, with_raised, with_stop, with_claim, with_note}
use Rattle.stable_board.proofs.Packing.{in_packed, packed_in, packed_positive}
use Rattle.stable_board.proofs.Boards.{Grows, PublisherNews, PeekerNews, grows}

-- a member of a list stays at its place with more behind it
at_left : {A : Type 0} (xs ys : List A) (i : ℕ) (x : A) → slice_get xs i ≡ Some x → slice_get (xs ++ ys) i ≡ Some x
at_left [] ys i x h = cc
at_left (z ∷ zs) ys zero x h = h
at_left (z ∷ zs) ys (suc i) x h = at_left zs ys i x h

module _ {A : Type 0} where
  pub at_more_cases : (xs : List A) (y : A) (k : ℕ) (x : A) → slice_get (xs ++ y ∷ []) k ≡ Some x → (slice_get xs k ≡ Some x) ⊎ ((k ≡ length xs) × (y ≡ x))
  at_more_cases [] y zero x e = inr (refl, cc)
  at_more_cases [] y (suc k) x e = absurd (cc)
  at_more_cases (z ∷ zs) y zero x e = inl e
  at_more_cases (z ∷ zs) y (suc k) x e = ⊎_elim inl (λ h. inr (omega (arith, h.0), h.1)) (at_more_cases zs y k x e)

  pub at_more : (xs : List A) (y : A) → slice_get (xs ++ y ∷ []) (length xs) ≡ Some y
  at_more [] y = refl
  at_more (z ∷ zs) y = at_more zs y

module _ (w : ℕ → ℕ) (p : ℕ → Published) (s : ℕ → Peeked) (b : IsBoard w p s) where
  same_words : Grows w w p p
  same_words = record { words = λ _ h. h; top = le_refl (w 0); verified = λ _ _ _ h. h; longer = λ n. le_refl _; raised = λ _ _ h. h }

  nothing_published : PublisherNews w w p p
  nothing_published = record { verified = λ _ _ _ h. inl h; raised = λ _ _ h. inl h; set = λ _. inl refl; claimed = inl refl; stops = λ _ _ h. inl h }

  nothing_peeked : (x : ℕ → ℕ) (q : ℕ → Published) → PeekerNews x q s s
  nothing_peeked x q = record { claims = λ _ _ h. inl h; notes = λ _ _ h. inl h }

  -- what a publisher did is longer by an identity, a claim or a stop
  more_verified : (n : ℕ) (id : Identity) (m place : ℕ) (x : Identity) → slice_get (put p n (with_verified (p n) id) m).verified place ≡ Some x
      → (slice_get (p m).verified place ≡ Some x) ⊎ ((place ≡ length (p n).verified) × (id ≡ x))
  more_verified n id m place x = put_cases (λ k y. slice_get y.verified place ≡ Some x → (slice_get (p k).verified place ≡ Some x) ⊎ ((place ≡ length (p n).verified) × (id ≡ x))) p n _
      (λ at. at_more_cases _ id place x at)
      (λ k _ at. inl at)
      m

  -- a peeker sees word 0
  pub peeks : (n : ℕ) → IsBoard w p (put s n (with_claim (s n) (claim_in (w 0))))
  peeks n =
      let seen : IsSeen w p (claim_in (w 0)) = record {
        raised = ⊎_elim (λ none. inl (ap claim_in none)) inr b.claimed;
        reached = subst (λ (k : ℕ). k ≤ w 0) (sym (packed_in (w 0))) (le_refl (w 0));
      } in
      grows w w p p s _ b same_words nothing_published (record {
        claims = put_cases (λ m y. (c : BoardClaim) → In c y.claims → In c (s m).claims ⊎ IsSeen w p c) s n _
            (λ c at. ⊎_elim inl (λ e. inr (subst (IsSeen w p) e seen)) (in_more c _ _ at))
            (λ m _ c at. inl at);
        notes = put_cases (λ m y. (c : ℕ × Identity) → In c y.notes → In c (s m).notes ⊎ IsAt w c) s n _ (λ c at. inl at) (λ m _ c at. inl at);
      })

  -- a peeker sees the word of a place that is set
  pub notes : (n place : ℕ) (id : Identity) → IsAt w (place, id) → IsBoard w p (put s n (with_note (s n) (place, id)))
  notes n place id here = grows w w p p s _ b same_words nothing_published (record {
    claims = put_cases (λ m y. (c : BoardClaim) → In c y.claims → In c (s m).claims ⊎ IsSeen w p c) s n _ (λ c at. inl at) (λ m _ c at. inl at);
    notes = put_cases (λ m y. (c : ℕ × Identity) → In c y.notes → In c (s m).notes ⊎ IsAt w c) s n _
        (λ c at. ⊎_elim inl (λ e. inr (subst (IsAt w) e here)) (in_more c _ _ at))
        (λ m _ c at. inl at);
  })

  -- a publisher finds another identity
  pub stops : (n place : ℕ) (id : Identity) → IsAt w (place, id) → IsBoard w (put p n (with_stop (p n) (place, id))) s
  stops n place id here =
      let q : ℕ → Published = put p n (with_stop (p n) (place, id)) in
      grows w w p q s s b
      (record {
        words = λ _ h. h;
        top = le_refl (w 0);
        verified = put_cases (λ m y. (k : ℕ) (x : Identity) → slice_get (p m).verified k ≡ Some x → slice_get y.verified k ≡ Some x) p n _ (λ k x h. h) (λ m _ k x h. h);
        longer = put_cases (λ m y. length (p m).verified ≤ length y.verified) p n _ (le_refl _) (λ m _. le_refl _);
        raised = put_cases (λ m y. (c : ℕ × ℕ) → In c (p m).raised → In c y.raised) p n _ (λ c h. h) (λ m _ c h. h);
      })
      (record {
        verified = put_cases (λ m y. (k : ℕ) (x : Identity) → slice_get y.verified k ≡ Some x → (slice_get (p m).verified k ≡ Some x) ⊎ (IsAt w (k, x) × (k < 65536))) p n _ (λ k x h. inl h) (λ m _ k x h. inl h);
        raised = put_cases (λ m y. (c : ℕ × ℕ) → In c y.raised → In c (p m).raised ⊎ IsRaised w m y c) p n _ (λ c h. inl h) (λ m _ c h. inl h);
        set = λ _. inl refl;
        claimed = inl refl;
        stops = put_cases (λ m y. (c : ℕ × Identity) → In c y.stops → In c (p m).stops ⊎ IsAt w c) p n _
            (λ c at. ⊎_elim inl (λ e. inr (subst (IsAt w) e here)) (in_more c _ _ at))
            (λ m _ c at. inl at);
      })
      (nothing_peeked w q)

  -- a publisher raises word 0 to a claim of places that it verified
  pub raises : (n stable time : ℕ) (x : ℕ → ℕ) → stable ≤ length (p n).verified → time < 2 ^ 40 → n < 2 ^ 5
      → x 0 ≡ max (w 0) (packed_claim (record { stable = stable; time = time; replica = n }))
      → ((place : ℕ) → x (place + 1) ≡ w (place + 1))
      → IsBoard x (put p n (with_raised (p n) (stable, time))) s
  raises n stable time x have early few top others =
      let claim : BoardClaim = record { stable = stable; time = time; replica = n } in
      let q : ℕ → Published = put p n (with_raised (p n) (stable, time)) in
      let up : w 0 ≤ x 0 = omega (arith, top) in
      let new : IsRaised x n (with_raised (p n) (stable, time)) (stable, time) = record { verified = have; time = early; replica_is = few; reached = omega (arith, top) } in
      let there : In (stable, time) (q n).raised = subst (λ (y : Published). In (stable, time) y.raised) (sym (put_own p n _)) (in_last (stable, time) (p n).raised) in
      grows w x p q s s b
      (record {
        words = λ noted h. (h.0, others noted.0 ∙ h.1);
        top = up;
        verified = put_cases (λ m y. (k : ℕ) (z : Identity) → slice_get (p m).verified k ≡ Some z → slice_get y.verified k ≡ Some z) p n _ (λ k z h. h) (λ m _ k z h. h);
        longer = put_cases (λ m y. length (p m).verified ≤ length y.verified) p n _ (le_refl _) (λ m _. le_refl _);
        raised = put_cases (λ m y. (c : ℕ × ℕ) → In c (p m).raised → In c y.raised) p n _ (λ c h. in_left c _ _ h) (λ m _ c h. h);
      })
      (record {
        verified = put_cases (λ m y. (k : ℕ) (z : Identity) → slice_get y.verified k ≡ Some z → (slice_get (p m).verified k ≡ Some z) ⊎ (IsAt x (k, z) × (k < 65536))) p n _ (λ k z h. inl h) (λ m _ k z h. inl h);
        raised = put_cases (λ m y. (c : ℕ × ℕ) → In c y.raised → In c (p m).raised ⊎ IsRaised x m y c) p n _
            (λ c at. ⊎_elim inl (λ e. inr (subst (IsRaised x n _) e new)) (in_more c _ _ at))
            (λ m _ c h. inl h);
        set = λ place. inl (others place);
        claimed = raised_top (w 0) claim (x 0) top (λ is. subst (WasRaised q) (sym (ap claim_in is ∙ in_packed claim early few)) there);
        stops = put_cases (λ m y. (c : ℕ × Identity) → In c y.stops → In c (p m).stops ⊎ IsAt x c) p n _ (λ c at. inl at) (λ m _ c at. inl at);
      })
      (nothing_peeked x q)
    where
      raised_top : {P : Type 0} (old : ℕ) (c : BoardClaim) (new : ℕ) → new ≡ max old (packed_claim c) → (new ≡ packed_claim c → P) → (new ≡ old) ⊎ P
      raised_top old c new is f = ⊎_elim inl (λ e. inr (f e)) (which (packed_claim c) is)
        where
          which : (k : ℕ) → new ≡ max old k → (new ≡ old) ⊎ (new ≡ k)
          which k e = grind arith

  -- a publisher sets the word of its next place, or finds its own identity there
  pub verifies : (n : ℕ) (id : Identity) (x : ℕ → ℕ) → length (p n).verified < 65536 → IsIdentity id
      → (w (length (p n).verified + 1) ≡ 0) ⊎ (w (length (p n).verified + 1) ≡ packed id)
      → x (length (p n).verified + 1) ≡ packed id → x 0 ≡ w 0
      → ((place : ℕ) → place ≢ length (p n).verified → x (place + 1) ≡ w (place + 1))
      → IsBoard x (put p n (with_verified (p n) id)) s
  verifies n id x room valid was is top others =
      let q : ℕ → Published = put p n (with_verified (p n) id) in
      let here : IsAt x (length (p n).verified, id) = (valid, is) in
      let own : slice_get (q n).verified (length (p n).verified) ≡ Some id =
      subst (λ (y : Published). slice_get y.verified (length (p n).verified) ≡ Some id) (sym (put_own p n _)) (at_more (p n).verified id) in
      grows w x p q s s b
      (record {
        words = λ noted h. words_stay noted h;
        top = subst (λ (k : ℕ). w 0 ≤ k) (sym top) (le_refl (w 0));
        verified = put_cases (λ m y. (k : ℕ) (z : Identity) → slice_get (p m).verified k ≡ Some z → slice_get y.verified k ≡ Some z) p n _ (λ k z h. at_left _ _ k z h) (λ m _ k z h. h);
        longer = put_cases (λ m y. length (p m).verified ≤ length y.verified) p n _ (omega (arith, length-append (p n).verified (id ∷ []))) (λ m _. le_refl _);
        raised = put_cases (λ m y. (c : ℕ × ℕ) → In c (p m).raised → In c y.raised) p n _ (λ c h. h) (λ m _ c h. h);
      })
      (record {
        verified = λ m k z at. ⊎_elim inl (λ h. inr (subst (λ (y : Identity). IsAt x (k, y)) h.1 (valid, ap (λ (j : ℕ). x (j + 1)) h.0 ∙ is), subst (λ (j : ℕ). j < 65536) (sym h.0) room)) (more_verified n id m k z at);
        raised = put_cases (λ m y. (c : ℕ × ℕ) → In c y.raised → In c (p m).raised ⊎ IsRaised x m y c) p n _ (λ c h. inl h) (λ m _ c h. inl h);
        set = λ place. by place (place == length (p n).verified) refl own;
        claimed = inl top;
        stops = put_cases (λ m y. (c : ℕ × Identity) → In c y.stops → In c (p m).stops ⊎ IsAt x c) p n _ (λ c at. inl at) (λ m _ c at. inl at);
      })
      (nothing_peeked x q)
    where
      words_stay : (noted : ℕ × Identity) → IsAt w noted → IsAt x noted
      words_stay noted h = stay (noted.0 == length (p n).verified) refl
        where
          stay : (test : Bool) → (noted.0 == length (p n).verified) ≡ test → IsAt x noted
          stay true e =
              let same : noted.0 ≡ length (p n).verified = grind arith in
              let old : w (length (p n).verified + 1) ≡ packed noted.1 = ap (λ (j : ℕ). w (j + 1)) (sym same) ∙ h.1 in
              let mine : packed id ≡ packed noted.1 = ⊎_elim (λ none. absurd (packed_positive noted.1 h.0 (sym old ∙ none))) (λ own. sym own ∙ old) was in
              (h.0, ap (λ (j : ℕ). x (j + 1)) same ∙ (is ∙ mine))
          stay false e = let other : noted.0 ≢ length (p n).verified = grind arith in (h.0, others noted.0 other ∙ h.1)

      by : (place : ℕ) (test : Bool) → (place == length (p n).verified) ≡ test → slice_get (put p n (with_verified (p n) id) n).verified (length (p n).verified) ≡ Some id
          → (x (place + 1) ≡ w (place + 1)) ⊎ WasVerified x (put p n (with_verified (p n) id)) place
      by place true e own =
          let same : place ≡ length (p n).verified = grind arith in
          inr (record {
            by = n;
            identity = id;
            verified = subst (λ (j : ℕ). slice_get (put p n (with_verified (p n) id) n).verified j ≡ Some id) (sym same) own;
            is = ap (λ (j : ℕ). x (j + 1)) same ∙ is;
          })
      by place false e own = let other : place ≢ length (p n).verified = grind arith in inl (others place other)
