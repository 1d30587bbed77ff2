-- What holds of the tool holds after each line.
use Rattle.std.proofs.Common.{◌≡◌, inl, inr, ℕ, ◌+◌, ◌≤◌, ◌<◌, Bool, true, false, List, [], ◌∷◌, ◌++◌, length, take, drop, Option, refl, sym, ap, ◌∙◌, subst, append-nil, arith, length-append, if◌then◌else◌}
use Rattle.std.proofs.lemmas.List.{length-take-le, take-append-le, take-take}
use Rattle.rec_id.specs.declared.entry.Entry.{Entry}
use Rattle.rec_id.specs.declared.item.Cell.{Cell}
use Rattle.view_config.specs.declared.edition.Edition.TheVariants.{One}
use Rattle.lazy_msgs.specs.FrameLimits.{CellFits}
use Rattle.lazy_rules.specs.Store.{Store, part, raise_stable, with_cell}
use Rattle.journal_disk.specs.Calls.{Call, Syncs, Writes}
use Rattle.journal_disk.specs.Disk.{with_bytes}
use Rattle.journal_disk.proofs.Staging.{gate_written, staged_longer}
use Rattle.shard_journal.specs.declared.block.Block.{Block}
use Rattle.shard_journal.specs.Blocks.{BlockFits, IsFile, IsWhole, behind_form, block_form, blocks_form, entries_in}
use Rattle.shard_journal.specs.State.{next_block, next_to}
use Rattle.shard_journal.proofs.Files.{end_within, entries-push, form-push, opened_file, staged_file}
use Rattle.journal_top.specs.declared.tool.TheConstants.{PLACES_LIMIT}
use Rattle.journal_top.specs.declared.words.Shard.{Shard}
use Rattle.journal_top.specs.Devices.{Device, failed, is_stopped, keep_calls, made, one_less, succeeded}
use Rattle.journal_top.specs.Rules.{ToolState, open_again, put, start}
use Rattle.journal_top.specs.Sound.{HoldsMore, IsPlain, IsSound}
use Rattle.journal_top.proofs.Opening.{ready_whole}
use Rattle.journal_top.proofs.Parts.{next_fits, one_fits_more, part_split, part_stays}

-- ---- at first

pub start_sound : (shard : Shard) → IsSound (start shard)
start_sound shard =
    let whole : IsWhole (0 ∷ []) [] 0 = record { closing = 0; rest = []; closed = omega arith; bytes = refl; chain = refl } in record {
      plain = record { floor_is = refl; stable_is = omega arith; places = omega arith; fit = tt };
      kept_is = omega arith;
      blocks = [];
      whole = whole;
      end_is = refl;
      entries_are = refl;
      reads = λ e. refl;
      more = record { to = 0; least = omega arith; most = omega arith; holds = record { blocks = []; is_file = inr whole; entries_are = refl } };
    }

-- ---- a store that grows

module _ (t : ToolState) (sound : IsSound t) where
  more_stays : (store : Store) (cells : List Cell) (file : List ℕ) → store.order ≡ t.store.order ++ cells → t.store.stable ≤ store.stable → HoldsMore t.store t.kept file → HoldsMore store t.kept file
  more_stays store cells file order_is stable more = record {
    to = more.to;
    least = more.least;
    most = omega (arith, more.most, stable);
    holds = record {
      blocks = more.holds.blocks;
      is_file = more.holds.is_file;
      entries_are = part_stays t.store store cells more.to order_is (omega (arith, more.most, sound.plain.stable_is)) ∙ more.holds.entries_are;
    };
  }

  pub grown_sound : (store : Store) (cells : List Cell) → store.order ≡ t.store.order ++ cells → t.store.stable ≤ store.stable → IsPlain store → IsSound (record t { store = store })
  grown_sound store cells order_is stable plain = record {
    plain = plain;
    kept_is = omega (arith, sound.kept_is, stable);
    blocks = sound.blocks;
    whole = sound.whole;
    end_is = sound.end_is;
    entries_are = sound.entries_are ∙ sym (part_stays t.store store cells t.kept order_is (omega (arith, sound.kept_is, sound.plain.stable_is)));
    reads = sound.reads;
    more = more_stays store cells t.disk.bytes order_is stable sound.more;
  }

  pub added_sound : (cell : Cell) → length t.store.order < PLACES_LIMIT → CellFits One cell → IsSound (record t { store = with_cell t.store cell })
  added_sound cell below fits =
      grown_sound (with_cell t.store cell) (cell ∷ []) refl (omega arith) (record {
        floor_is = sound.plain.floor_is;
        stable_is = omega (arith, sound.plain.stable_is, length-append t.store.order (cell ∷ []));
        places = omega (arith, below, length-append t.store.order (cell ∷ []));
        fit = one_fits_more t.store.order cell sound.plain.fit fits;
      })

  pub raised_sound : (to : ℕ) → t.store.stable ≤ to → to ≤ length t.store.order → IsSound (record t { store = raise_stable t.store to })
  raised_sound to least most =
      grown_sound (raise_stable t.store to) [] (sym (append-nil t.store.order)) least (record { floor_is = sound.plain.floor_is; stable_is = most; places = sound.plain.places; fit = sound.plain.fit })

  -- ---- a keep

  module _ (block : Block) (is : block ≡ next_block t.store t.kept) (below : t.kept < t.store.stable) (open_ : t.closed ≡ false) where
    within : t.end < length t.disk.synced
    within = end_within t.disk.synced sound.blocks t.kept t.end sound.whole sound.end_is

    staged : take (t.end + 1) (with_bytes t.disk.synced (t.end + 1) (behind_form block ++ 0 ∷ [])) ≡ take (t.end + 1) t.disk.synced
    staged =
        let f = t.disk.synced in
        let bytes = behind_form block ++ 0 ∷ [] in
        let front : length (take (t.end + 1) f) ≡ t.end + 1 = length-take-le (t.end + 1) f (omega (arith, within)) in
        take-append-le (t.end + 1) (take (t.end + 1) f ++ bytes) (drop (t.end + 1 + length bytes) f) (omega (arith, front, length-append (take (t.end + 1) f) bytes))
        ∙ take-append-le (t.end + 1) (take (t.end + 1) f) bytes (omega (arith, front)) ∙ take-take (t.end + 1) (t.end + 1) f (omega arith)

    long_whole : (other : List ℕ) → 2 ≤ length other → IsFile other sound.blocks t.kept → IsWhole other sound.blocks t.kept
    long_whole other many (inl bare) = absurd (omega (arith, many, bare.few))
    long_whole other many (inr whole) = whole

    staged_whole : IsWhole (with_bytes t.disk.synced (t.end + 1) (behind_form block ++ 0 ∷ [])) sound.blocks t.kept
    staged_whole =
        let other = with_bytes t.disk.synced (t.end + 1) (behind_form block ++ 0 ∷ []) in
        long_whole other
        (omega (arith, staged_longer t.disk.synced (behind_form block ++ 0 ∷ []) t.end within, length-append (behind_form block) (0 ∷ [])))
        (staged_file t.disk.synced sound.blocks t.kept t.end sound.whole sound.end_is other staged)

    put_whole : IsWhole (with_bytes (with_bytes t.disk.synced (t.end + 1) (behind_form block ++ 0 ∷ [])) t.end (1 ∷ [])) (sound.blocks ++ block ∷ []) block.to
    put_whole =
        let fits : BlockFits block = subst BlockFits (sym is) (next_fits t.store t.kept sound.plain below) in
        opened_file t.disk.synced sound.blocks t.kept t.end sound.whole sound.end_is block (behind_form block ++ 0 ∷ []) fits (ap (λ (b : Block). b.from) is) refl
        (with_bytes (with_bytes t.disk.synced (t.end + 1) (behind_form block ++ 0 ∷ [])) t.end (1 ∷ []))
        (gate_written t.disk.synced (behind_form block ++ 0 ∷ []) t.end within)

    to_is : block.to ≡ next_to t.store t.kept
    to_is = ap (λ (b : Block). b.to) is

    to_most : block.to ≤ t.store.stable
    to_most = omega (arith, to_is, below)

    to_least : t.kept ≤ block.to
    to_least = omega (arith, to_is)

    put_entries : entries_in (sound.blocks ++ block ∷ []) ≡ part t.store 0 block.to
    put_entries =
        entries-push sound.blocks block ∙ ap (λ (l : List (ℕ × Entry)). l ++ block.entries) sound.entries_are
        ∙ ap (λ (b : Block). part t.store 0 t.kept ++ b.entries) is
        ∙ ap (λ (n : ℕ). part t.store 0 t.kept ++ part t.store t.kept n) (sym to_is)
        ∙ sym (part_split t.store t.kept block.to to_least (omega (arith, sound.kept_is, sound.plain.stable_is)))

    holds_kept : (other : List ℕ) → IsWhole other sound.blocks t.kept → HoldsMore t.store t.kept other
    holds_kept other whole = record { to = t.kept; least = omega arith; most = sound.kept_is; holds = record { blocks = sound.blocks; is_file = inr whole; entries_are = sym sound.entries_are } }

    holds_put : (other : List ℕ) → IsWhole other (sound.blocks ++ block ∷ []) block.to → HoldsMore t.store t.kept other
    holds_put other whole = record { to = block.to; least = to_least; most = to_most; holds = record { blocks = sound.blocks ++ block ∷ []; is_file = inr whole; entries_are = sym put_entries } }

    failed_sound : (bytes synced : List ℕ) (left : Option ℕ) → IsWhole synced sound.blocks t.kept → HoldsMore t.store t.kept bytes → IsSound (put t block (record { disk = record { bytes = bytes; synced = synced; left = left }; ok = false })).0
    failed_sound bytes synced left whole more = record {
      plain = sound.plain;
      kept_is = sound.kept_is;
      blocks = sound.blocks;
      whole = whole;
      end_is = sound.end_is;
      entries_are = sound.entries_are;
      reads = λ e. absurd (let both : true ≡ false = e in cc);
      more = more;
    }

    done_sound : (bytes : List ℕ) (left : Option ℕ) → IsWhole bytes (sound.blocks ++ block ∷ []) block.to → IsSound (put t block (record { disk = record { bytes = bytes; synced = bytes; left = left }; ok = true })).0
    done_sound bytes left whole = record {
      plain = sound.plain;
      kept_is = to_most;
      blocks = sound.blocks ++ block ∷ [];
      whole = whole;
      end_is = omega (arith, sound.end_is, ap length (form-push sound.blocks block), length-append (blocks_form sound.blocks) (block_form block));
      entries_are = put_entries;
      reads = λ e. refl;
      more = record { to = block.to; least = omega arith; most = to_most; holds = record { blocks = sound.blocks ++ block ∷ []; is_file = inr whole; entries_are = sym put_entries } };
    }

    -- a call more, which fails or succeeds
    one_call : (disk : Device) (call : Call) (calls : List Call) → IsSound (put t block (record { disk = failed disk; ok = false })).0 → IsSound (put t block (made (succeeded call disk) calls)).0 → IsSound (put t block (made disk (call ∷ calls))).0
    one_call disk call calls stop on = by (is_stopped disk.left)
      where
        by : (b : Bool) → IsSound (put t block (if b then record { disk = failed disk; ok = false } else made (succeeded call disk) calls)).0
        by true = stop
        by false = on

    from_synced : (left : Option ℕ) → IsSound (put t block (made (record { bytes = t.disk.synced; synced = t.disk.synced; left = left }) (keep_calls t.end block))).0
    from_synced left =
        let f = t.disk.synced in
        let w = with_bytes f (t.end + 1) (behind_form block ++ 0 ∷ []) in
        let o = with_bytes w t.end (1 ∷ []) in
        let one : Call = Writes (t.end + 1) (behind_form block ++ 0 ∷ []) in
        let three : Call = Writes t.end (1 ∷ []) in
        one_call (record { bytes = f; synced = f; left = left }) one (Syncs ∷ three ∷ Syncs ∷ []) (failed_sound f f (one_less left) sound.whole (holds_kept f sound.whole))
        (one_call (record { bytes = w; synced = f; left = one_less left }) Syncs (three ∷ Syncs ∷ []) (failed_sound w f (one_less (one_less left)) sound.whole (holds_kept w staged_whole))
        (one_call (record { bytes = w; synced = w; left = one_less (one_less left) }) three (Syncs ∷ []) (failed_sound w w (one_less (one_less (one_less left))) staged_whole (holds_kept w staged_whole))
        (one_call (record { bytes = o; synced = w; left = one_less (one_less (one_less left)) }) Syncs [] (failed_sound o w (one_less (one_less (one_less (one_less left)))) staged_whole (holds_put o put_whole))
        (done_sound o (one_less (one_less (one_less (one_less left)))) put_whole))))

    pub put_sound : IsSound (put t block (made t.disk (keep_calls t.end block))).0
    put_sound =
        let same : record { bytes = t.disk.synced; synced = t.disk.synced; left = t.disk.left } ≡ t.disk = ap (λ (bytes : List ℕ). let d : Device = record { bytes = bytes; synced = t.disk.synced; left = t.disk.left } in d) (sym (sound.reads open_)) in
        subst (λ (d : Device). IsSound (put t block (made d (keep_calls t.end block))).0) same (from_synced t.disk.left)

  -- ---- the file is opened again

  pub opened_sound : IsSound (open_again t).0
  opened_sound =
      let whole = ready_whole t.disk.synced sound.blocks t.kept sound.whole in record {
        plain = sound.plain;
        kept_is = sound.kept_is;
        blocks = sound.blocks;
        whole = whole;
        end_is = sound.end_is;
        entries_are = sound.entries_are;
        reads = λ e. refl;
        more = record { to = t.kept; least = omega arith; most = sound.kept_is; holds = record { blocks = sound.blocks; is_file = inr whole; entries_are = sym sound.entries_are } };
      }

  -- ---- what the rest changes

  pub counted_sound : (lines : ℕ) → IsSound (record t { lines = lines })
  counted_sound lines = record { plain = sound.plain; kept_is = sound.kept_is; blocks = sound.blocks; whole = sound.whole; end_is = sound.end_is; entries_are = sound.entries_are; reads = sound.reads; more = sound.more }

  pub stopping_sound : (left : Option ℕ) → IsSound (record t { disk = record t.disk { left = left } })
  stopping_sound left = record { plain = sound.plain; kept_is = sound.kept_is; blocks = sound.blocks; whole = sound.whole; end_is = sound.end_is; entries_are = sound.entries_are; reads = sound.reads; more = sound.more }
