-- A primary and its backups: what they said, and what all of the shard have settled.
use Rattle.std.proofs.Common.{◌≡◌, ◌≢◌, ℕ, ◌≤◌, List, [], ◌∷◌, Option, Some, None, inl, inr, refl, sym, ◌∙◌, ap, subst, arith, Bool, true, false}
use Rattle.std.specs.Prelude.{nat_le}
use Rattle.std.specs.List.{list_all}
use Rattle.std.specs.Option.{option_map_or}
use Rattle.std.proofs.lemmas.Bool.{eqb-true, leb-true}
use Rattle.list_facts.specs.Lists.{Each, In, put}
use Rattle.list_facts.proofs.Members.{all_pass, each_in, in_each, in_mapped}
use Rattle.list_facts.proofs.Puts.{put_cases}
use Rattle.view_config.specs.Shape.{Dimensions}
use Rattle.lazy_rules.specs.Pushing.{length_of, reaches}
use Rattle.lazy_rules.specs.Roles.{is_first, others_of, replicas_at}
use Rattle.lazy_rules.specs.ShardRules.{first_unplaced}
use Rattle.lazy_rules.specs.ShardState.{Backup, ShardState}
use Rattle.log_facts.specs.Finality.{AllSettledIn, HasSettled, IsSettled}
use Rattle.log_facts.specs.Ghosts.{Ghost}
use Rattle.log_facts.specs.Good.{Moment}
use Rattle.log_facts.specs.Parts.{Parts, home_of}
use Rattle.log_facts.specs.Says.{CopiedSays}
use Rattle.log_facts.specs.facts.OfShards.{BackupNoted, IsNotedTo, RankFacts}
use Rattle.shard_rows.proofs.Placing.{first_alone}

-- a member that isn't the first is one of the others
in_others : (nodes : List ℕ) (first node : ℕ) → is_first nodes first ≡ true → node ≢ first → In node nodes → In node (others_of nodes)
in_others [] first node h other i = absurd i
in_others (one ∷ others) first node h other (inl is) = absurd (other (sym is ∙ eqb-true one first h))
in_others (one ∷ others) first node h other (inr i) = i

-- a backup that reaches a place is noted to have the order up to there
reached : (upto : ℕ) (copied : Option ℕ) → option_map_or (nat_le upto) copied false ≡ true → (n : ℕ) × (copied ≡ Some n) × (upto ≤ n)
reached upto None h = cc
reached upto (Some n) h = (n, refl, leb-true upto n h)

pub reaches_noted : (view upto : ℕ) (backups : List Backup) → list_all (reaches upto) backups ≡ true → Each (IsNotedTo view upto) backups
reaches_noted view upto backups h = in_each (IsNotedTo view upto) backups (λ backup i. inr (reached upto backup.copied (all_pass (reaches upto) backups h backup i)))

unplaced_idle : (s : ShardState) → s.jobs ≡ [] → first_unplaced s s.jobs ≡ length_of s
unplaced_idle s idle = ap (first_unplaced s) idle

module _ (shape : Dimensions) (g : Ghost) (a : Parts) (me : ℕ) (moment : Moment shape g a) (there : 1 ≤ (a.shards me).view) where
  abbrev s : ShardState
  s = a.shards me

  abbrev group : List ℕ
  group = replicas_at (g.views.cf s.view) (home_of me)

  rank : RankFacts g.views me s
  rank = moment.agreed.shards.ranks me there

  pub leads_group : s.primary ≡ true → is_first group me ≡ true
  leads_group primary = sym rank.first ∙ primary

  -- in one view another replica of a primary's shard is a backup
  pub other_backup : (d : ℕ) → d ≢ me → home_of d ≡ home_of me → s.primary ≡ true → (a.shards d).view ≡ s.view → (a.shards d).primary ≡ false
  other_backup d other home primary same = by (a.shards d).primary refl
    where
      by : (b : Bool) → (a.shards d).primary ≡ b → (a.shards d).primary ≡ false
      by false is = is
      by true is =
          let own : is_first (replicas_at (g.views.cf (a.shards d).view) (home_of d)) d ≡ true = sym (moment.agreed.shards.ranks d (omega arith)).first ∙ is in
          let its : is_first group d ≡ true = subst (λ (n : ℕ). is_first (replicas_at (g.views.cf s.view) n) d ≡ true) home (subst (λ (w : ℕ). is_first (replicas_at (g.views.cf w) (home_of d)) d ≡ true) same own) in
          absurd (other (first_alone group d me its (leads_group primary)))

  -- every backup is noted
  pub noted_of : (d : ℕ) → d ≢ me → s.primary ≡ true → In d group → (backup : Backup) × (In backup s.backups) × (backup.node ≡ d)
  noted_of d other primary i = in_mapped (λ (backup : Backup). backup.node) d s.backups (subst (λ (nodes : List ℕ). In d nodes) (sym (rank.backups primary)) (in_others group me d (leads_group primary) other i))

  module _ (upto : ℕ) (primary : s.primary ≡ true) (all : list_all (reaches upto) s.backups ≡ true) where
    backup_says : (d : ℕ) → d ≢ me → In d group → (n : ℕ) × (upto ≤ n) × CopiedSays (a.shards d) s.view n
    backup_says d other i =
        let one = noted_of d other primary i in
        let far = reached upto (one.0).copied (all_pass (reaches upto) s.backups all one.0 one.1) in
        let said : CopiedSays (a.shards (one.0).node) s.view far.0 = each_in (BackupNoted a.shards s.view) s.backups (moment.agreed.places.among.noted me) one.0 one.1 far.0 far.1 in
        (far.0, far.2, subst (λ (n : ℕ). CopiedSays (a.shards n) s.view far.0) one.2 said)

    -- a backup settles what it has
    backup_settled : (d : ℕ) → d ≢ me → In d group → IsSettled (a.shards d) s.view upto
    backup_settled d other i =
        let says = backup_says d other i in
        let enough : upto ≤ says.0 = says.1 in
        let home : home_of d ≡ home_of me = (moment.agreed.views.configs.lists s.view).homes (home_of me) d i in
        let own = (says.2).own in
        let r = moment.agreed.shards.ranks d (omega arith) in
        record {
          own = own;
          settled = λ same.
              let has = (says.2).has same in
              let backup = other_backup d other home primary same in
              let unplaced = unplaced_idle (a.shards d) (r.idle backup) in
              record {
                has = omega arith;
                whole = λ place sign lt at. r.whole backup place sign (omega arith) at;
                placed = omega arith;
              };
        }

    -- what it has settled itself, with all its backups, all of its shard have
    pub all_settled : (t : ShardState) → t.view ≡ s.view → HasSettled t upto → AllSettledIn g.views (put a.shards me t) s.view (home_of me) upto
    all_settled t same settled = put_cases (λ (d : ℕ) (x : ShardState). In d group → IsSettled x s.view upto) a.shards me t
        (λ i. record { own = omega arith; settled = λ now. settled })
        (λ d other i. backup_settled d other i)
