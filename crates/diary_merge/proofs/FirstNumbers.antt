-- The first number of a message among all that was sent: how many were sent before its step, and its place there.
use Rattle.std.proofs.Common.{◌≡◌, ◌≢◌, ◌<◌, ◌+◌, ℕ, zero, suc, List, [], ◌∷◌, ◌++◌, length, map, Bool, true, false, Option, Some, None, inl, inr, refl, sym, ap, ◌∙◌, subst, arith, ne_eqb, length-append, take}
use Rattle.std.specs.Prelude.{◌-◌, ◌==◌, if◌then◌else◌, slice_get}
use Rattle.std.specs.Option.{option_map}
use Rattle.std.proofs.lemmas.Option.{slice_get-map, slice_get_within}
use Rattle.std.proofs.lemmas.Bool.{cases_lt}
use Rattle.list_facts.specs.Lists.{In}
use Rattle.list_facts.proofs.Members.{each_in, in_mapped}
use Rattle.list_facts.proofs.Places.{in_at}
use Rattle.lazy_msgs.specs.declared.msg.Envelope.{Envelope}
use Rattle.lazy_msgs.specs.declared.msg.Msg.{Msg}
use Rattle.lazy_rules.specs.WorldRules.{envelope_at, enveloped}
use Rattle.diary_laws.specs.Merges.{IsFirstNumber, Ranked, sent_by}
use Rattle.diary_laws.proofs.merges.Crashes.{made_of}
use Rattle.diary_merge.specs.Acts.{Act}

-- a message in its envelope
abbrev pub envelope_of : Act → ℕ × Msg → Envelope
envelope_of act send = record { from = act.node; to = send.0; time = act.time; msg = send.1 }

module _ {A : Type 0} where
  get_left : (xs ys : List A) (i : ℕ) → i < length xs → slice_get (xs ++ ys) i ≡ slice_get xs i
  get_left [] ys i h = absurd (omega arith)
  get_left (x ∷ xs) ys zero h = refl
  get_left (x ∷ xs) ys (suc i) h = get_left xs ys i (omega arith)

  get_right : (xs ys : List A) (i j : ℕ) → j ≡ length xs + i → slice_get (xs ++ ys) j ≡ slice_get ys i
  get_right [] ys i j at = ap (slice_get ys) (let e : j ≡ i = omega arith in e)
  get_right (x ∷ xs) ys i zero at = absurd (omega arith)
  get_right (x ∷ xs) ys i (suc j) at = get_right xs ys i j (omega arith)

-- a number above 0 is one more than a place
numbered : (sent : List Envelope) (k at : ℕ) → k ≡ at + 1 → envelope_at sent k ≡ slice_get sent at
numbered sent k at is =
    ap (λ (b : Bool). if b then None else slice_get sent (k - 1)) (ne_eqb k 0 (omega arith)) ∙ ap (slice_get sent) (let e : k - 1 ≡ at = omega arith in e)

-- two steps are not of one node at one time
abbrev pub Apart : Act → Act → Type 0
Apart x y = ¬ ((x.time ≡ y.time) × (x.node ≡ y.node))

-- this send of this step is the first of its kind there
pub record IsSend (acts : List Act) (e : Envelope) (i at : ℕ) : Type 0 where
  pub act : Act
  pub there : slice_get acts i ≡ Some act
  pub own : (act.node ≡ e.from) × (act.time ≡ e.time)
  pub sends : slice_get act.row.sends at ≡ Some (e.to, e.msg)
  pub first : (j : ℕ) (send : ℕ × Msg) → j < at → slice_get act.row.sends j ≡ Some send → send ≢ (e.to, e.msg)

abbrev sent_of : Act → List Envelope
sent_of act = enveloped act.node act.time act.row.sends

-- a message of a step, by its place
sent_at : (act : Act) (at : ℕ) → slice_get (sent_of act) at ≡ option_map (envelope_of act) (slice_get act.row.sends at)
sent_at act at = slice_get-map (envelope_of act) act.row.sends at

-- the first place of an envelope among those sent
record IsFirstAt (sent : List Envelope) (e : Envelope) (at : ℕ) : Type 0 where
  is : slice_get sent at ≡ Some e
  first : (j : ℕ) → j < at → slice_get sent j ≢ Some e

first_number : (sent : List Envelope) (e : Envelope) (at : ℕ) → IsFirstAt sent e at → IsFirstNumber sent e (at + 1)
first_number sent e at h = record { is = numbered sent (at + 1) at refl ∙ h.is; first = before }
  where
    before : (j : ℕ) → j < at + 1 → envelope_at sent j ≢ Some e
    before zero early wrong = let no : None ≡ Some e = wrong in cc
    before (suc j) early wrong = h.first j (omega arith) (sym (numbered sent (suc j) j (omega arith)) ∙ wrong)

module _ (xs ys : List Envelope) (e : Envelope) where
  first_left : (at : ℕ) → IsFirstAt xs e at → IsFirstAt (xs ++ ys) e at
  first_left at h =
      let within = slice_get_within xs at e h.is in
      record {
        is = get_left xs ys at within ∙ h.is;
        first = λ j before wrong. h.first j before (sym (get_left xs ys j (omega arith)) ∙ wrong);
      }

  first_right : (at behind : ℕ) → behind ≡ length xs + at → ¬ In e xs → IsFirstAt ys e at → IsFirstAt (xs ++ ys) e behind
  first_right at behind sum none h = record { is = get_right xs ys at behind sum ∙ h.is; first = before }
    where
      before : (j : ℕ) → j < behind → slice_get (xs ++ ys) j ≢ Some e
      before j early wrong = elim (cases_lt j (length xs)) [
        | inl inside ↦ none (in_at xs j e (sym (get_left xs ys j inside) ∙ wrong))
        | inr past ↦ h.first (j - length xs) (omega arith) (sym (get_right xs ys (j - length xs) j (omega arith)) ∙ wrong)
      ]

-- in its own step
module _ (act : Act) (e : Envelope) (at : ℕ) (own : (act.node ≡ e.from) × (act.time ≡ e.time)) where
  opened : envelope_of act (e.to, e.msg) ≡ e
  opened = ap (λ (n : ℕ). record { from = n; to = e.to; time = act.time; msg = e.msg }) own.0 ∙ ap (λ (t : ℕ). record { from = e.from; to = e.to; time = t; msg = e.msg }) own.1

  other_send : (o : Option (ℕ × Msg)) → ((send : ℕ × Msg) → o ≡ Some send → send ≢ (e.to, e.msg)) → option_map (envelope_of act) o ≢ Some e
  other_send None other wrong = let no : None ≡ Some e = wrong in cc
  other_send (Some send) other wrong =
      let same : envelope_of act send ≡ e = (let is : Some (envelope_of act send) ≡ Some e = wrong in cc) in
      other send refl (ap (λ (x : Envelope). (x.to, x.msg)) same)

  first_here : slice_get act.row.sends at ≡ Some (e.to, e.msg) → ((j : ℕ) (send : ℕ × Msg) → j < at → slice_get act.row.sends j ≡ Some send → send ≢ (e.to, e.msg)) → IsFirstAt (sent_of act) e at
  first_here sends first = record {
    is = sent_at act at ∙ ap (option_map (envelope_of act)) sends ∙ ap Some opened;
    first = λ j before wrong. other_send (slice_get act.row.sends j) (λ send is. first j send before is) (sym (sent_at act j) ∙ wrong);
  }

-- among those of all
sender_of : (act : Act) (e : Envelope) → In e (sent_of act) → (act.node ≡ e.from) × (act.time ≡ e.time)
sender_of act e there = let k = in_mapped (envelope_of act) e act.row.sends there in (ap (λ (x : Envelope). x.from) k.2, ap (λ (x : Envelope). x.time) k.2)

first_among : (acts : List Act) → Ranked Apart acts → (e : Envelope) (i at : ℕ) → IsSend acts e i at → IsFirstAt (sent_by acts) e (length (sent_by (take i acts)) + at)
first_among [] apart e i at h = absurd (let wrong : None ≡ Some h.act = h.there in let no : ⊥ = cc in no)
first_among (act ∷ acts) apart e zero at h =
    let same : h.act ≡ act = (let is : Some act ≡ Some h.act = h.there in cc) in
    let none : 0 + at ≡ at = omega arith in
    subst (IsFirstAt (sent_by (act ∷ acts)) e) (sym none)
    (first_left (sent_of act) (sent_by acts) e at
    (subst (λ (a : Act). IsFirstAt (sent_of a) e at) same (first_here h.act e at h.own h.sends h.first)))
first_among (act ∷ acts) apart e (suc i) at h =
    let later : IsSend acts e i at = record { act = h.act; there = h.there; own = h.own; sends = h.sends; first = h.first } in
    let rest = first_among acts apart.1 e i at later in
    let other : ¬ In e (sent_of act) = λ there.
    let mine = sender_of act e there in
    each_in (Apart act) acts apart.0 h.act (in_at acts i h.act h.there) (mine.1 ∙ sym h.own.1, mine.0 ∙ sym h.own.0) in
    first_right (sent_of act) (sent_by acts) e (length (sent_by (take i acts)) + at) (length (sent_by (take (suc i) (act ∷ acts))) + at)
    (let sum = length-append (sent_of act) (sent_by (take i acts)) in omega arith) other rest

-- and stands there
pub first_at : (acts : List Act) → Ranked Apart acts → (e : Envelope) (i at : ℕ) → IsSend acts e i at → slice_get (sent_by acts) (length (sent_by (take i acts)) + at) ≡ Some e
first_at acts apart e i at h = (first_among acts apart e i at h).is

pub first_sent : (acts : List Act) → Ranked Apart acts → (e : Envelope) (i at number : ℕ) → number ≡ length (sent_by (take i acts)) + at + 1 → IsSend acts e i at → IsFirstNumber (sent_by acts) e number
first_sent acts apart e i at number is h = subst (IsFirstNumber (sent_by acts) e) (sym is) (first_number (sent_by acts) e (length (sent_by (take i acts)) + at) (first_among acts apart e i at h))

-- the step that sent a message, and its place
pub record IsSentBy (acts : List Act) (e : Envelope) : Type 0 where
  pub act : Act
  pub there : In act acts
  pub own : (act.node ≡ e.from) × (act.time ≡ e.time)
  pub send : In (e.to, e.msg) act.row.sends

pub sent_by_one : (acts : List Act) (e : Envelope) → In e (sent_by acts) → IsSentBy acts e
sent_by_one acts e there =
    let k = made_of sent_of acts e there in
    let m = in_mapped (envelope_of k.origin) e k.origin.row.sends k.made in
    record {
      act = k.origin;
      there = k.there;
      own = sender_of k.origin e k.made;
      send = subst (λ (send : ℕ × Msg). In send k.origin.row.sends) (ap (λ (x : Envelope). (x.to, x.msg)) m.2) m.1;
    }
