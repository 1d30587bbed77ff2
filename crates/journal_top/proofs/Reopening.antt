-- The tool at first, and once its file is opened again.
use Rattle.std.proofs.Common.{◌≡◌, inr, ℕ, List, [], refl, sym, ap, ◌∙◌, subst, arith}
use Rattle.rec_id.specs.declared.entry.Entry.{Entry}
use Rattle.lazy_rules.specs.Store.{Store, new_store, part}
use Rattle.journal_disk.specs.Past.{Memory, after_off, file_of}
use Rattle.shard_journal.specs.declared.block.Block.{Block}
use Rattle.shard_journal.specs.Blocks.{IsFile}
use Rattle.shard_journal.specs.State.{JournalState}
use Rattle.shard_journal.proofs.Files.{few_file}
use Rattle.journal_script.specs.Texts.{opened_text}
use Rattle.journal_top.specs.declared.words.Shard.{Shard}
use Rattle.journal_top.specs.Rules.{ToolState, open_again, says, start}
use Rattle.journal_top.specs.Sound.{IsOpened, IsSound, IsTool, tool_of}
use Rattle.journal_top.specs.Words.{IsShard}
use Rattle.journal_top.proofs.Sounds.{opened_sound, start_sound}

-- what opening tells
abbrev pub Tells : List ℕ → JournalState Memory → List (ℕ × Entry) → Type 0
Tells file journal entries = (blocks : List Block) (kept : ℕ) → IsFile file blocks kept → IsOpened file blocks kept journal entries

says_same : (a b : ToolState) (x y : List ℕ) → a ≡ b → x ≡ y → says a x ≡ says b y
says_same a b x y p q = rw (p, q) refl

pub record IsAgain (store : Store) (old new : JournalState Memory) (shard : Shard) (lines : ℕ) (entries : List (ℕ × Entry)) : Type 0 where
  pub told_is : says (tool_of store new lines) (opened_text new.kept entries) ≡ open_again (tool_of store old lines)
  pub tool : IsTool store new shard lines

pub again : (store : Store) (old new : JournalState Memory) (shard : Shard) (lines : ℕ) (entries : List (ℕ × Entry)) (off : Memory) → IsTool store old shard lines → off ≡ after_off old.disk → Tells (file_of off.tape.past) new entries → IsAgain store old new shard lines entries
again store old new shard lines entries off was off_is tells =
    let t = tool_of store old lines in
    let sound = was.sound in
    let f_is : file_of off.tape.past ≡ t.disk.synced = ap (λ (d : Memory). file_of d.tape.past) off_is in
    let there = tells sound.blocks old.kept (subst (λ (f : List ℕ). IsFile f sound.blocks old.kept) (sym f_is) (inr sound.whole)) in
    let opens : IsOpened t.disk.synced sound.blocks old.kept new entries = subst (λ (f : List ℕ). IsOpened f sound.blocks old.kept new entries) f_is there in
    let end_is : new.end ≡ old.end = opens.end_is ∙ sym sound.end_is in
    let state_is : tool_of store new lines ≡ (open_again t).0 = rw (opens.kept_is, end_is, opens.open_, opens.disk_is) refl in
    let entries_are : entries ≡ part store 0 old.kept = opens.entries_are ∙ sound.entries_are in
    record {
      told_is = says_same (tool_of store new lines) (open_again t).0 (opened_text new.kept entries) (opened_text old.kept (part store 0 old.kept)) state_is (ap (λ (k : ℕ). opened_text k entries) opens.kept_is ∙ ap (opened_text old.kept) entries_are);
      tool = record {
        sound = subst IsSound (sym state_is) (opened_sound t sound);
        owner = was.owner;
        mode_is = was.mode_is;
        shard_is = was.shard_is;
        shards_are = was.shards_are;
        faultless = opens.faultless;
        few = was.few;
      };
    }

pub record IsFirst (store : Store) (new : JournalState Memory) (shard : Shard) : Type 0 where
  pub state_is : tool_of store new 0 ≡ start shard
  pub tool : IsTool store new shard 0

pub first : (store : Store) (new : JournalState Memory) (shard : Shard) (entries : List (ℕ × Entry)) (off : Memory) → IsShard shard → store ≡ new_store shard.mode shard.number shard.shards → off.tape.past ≡ [] → Tells (file_of off.tape.past) new entries → IsFirst store new shard
first store new shard entries off owner store_is none tells =
    let f_is : file_of off.tape.past ≡ [] = ap file_of none in
    let bare : IsFile [] [] 0 = few_file [] (omega arith) in
    let there = tells [] 0 (subst (λ (f : List ℕ). IsFile f [] 0) (sym f_is) bare) in
    let opens : IsOpened [] [] 0 new entries = subst (λ (f : List ℕ). IsOpened f [] 0 new entries) f_is there in
    let state_is : tool_of store new 0 ≡ start shard = rw (opens.kept_is, opens.end_is, opens.open_, opens.disk_is, store_is) refl in
    record {
      state_is = state_is;
      tool = record {
        sound = subst IsSound (sym state_is) (start_sound shard);
        owner = owner;
        mode_is = ap (λ (s : Store). s.mode) store_is;
        shard_is = ap (λ (s : Store). s.shard) store_is;
        shards_are = ap (λ (s : Store). s.shards) store_is;
        faultless = opens.faultless;
        few = omega arith;
      };
    }
