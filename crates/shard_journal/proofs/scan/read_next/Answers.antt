use Rattle.std.proofs.Common.{◌≡◌, ℕ, ◌+◌, ◌-◌, ◌<◌, ◌^◌, List, length, take, drop, Some, None, Option, sym, ap, subst, ◌∙◌, arith, length-drop}
use Rattle.lazy_msgs.specs.Frame.{four}
use Rattle.shard_journal.specs.declared.block.Block.{Block}
use Rattle.shard_journal.specs.Reading.{BodyOf}
use Rattle.shard_journal.proofs.Scans.{no_block_short, no_block_long, read_on, not_read, offset_is}
use Rattle.journal_disk.proofs.Calling.{reach_none, reach_call, reach_then}
use Rattle.shard_journal.proofs.scan.read_next.Goals as goal

pub returns-then-left-le5-clause-damaged : goal.returns-then-left-le5-clause-damaged
returns-then-left-le5-clause-damaged g c = λ at same.
    let file = g.D.Disk.seen c.args.disk.now in
    let end = c.args.found.now.end in
    (offset_is end at same, no_block_short c.args.found.now.kept (drop (end + 1) file) (omega (arith, length-drop (end + 1) file, c.if-left-le5.true, c.requires.size)))

pub returns-then-count-left-clause-damaged : goal.returns-then-count-left-clause-damaged
returns-then-count-left-clause-damaged g c = λ at same.
    let file = g.D.Disk.seen c.args.disk.now in
    let end = c.args.found.now.end in
    let kept = c.args.found.now.kept in
    let count = c.number_in-count.result in
    let head : four count ≡ take 4 (drop (end + 1) file) = c.number_in-count.ensures ∙ c.in_ok-read.ensures.bytes in
    (offset_is end at same, no_block_long kept count (drop (end + 1) file) c.number_in-count.type_inv head (omega (arith, length-drop (end + 1) file, c.if-count-left.true, c.requires.size, c.if-left-le5.false)))

pub returns-in_ok-append-in-Some-clause-read : goal.returns-in_ok-append-in-Some-clause-read
returns-in_ok-append-in-Some-clause-read g c =
    let file = g.D.Disk.seen c.args.disk.now in
    let end = c.args.found.now.end in
    let kept = c.args.found.now.kept in
    let count = c.number_in-count.result in
    let head : four count ≡ take 4 (drop (end + 1) file) = c.number_in-count.ensures ∙ c.in_ok-read.ensures.bytes in
    let piece_is : c.read_piece.new.buffer.items ≡ take (count + 1) (drop (end + 5) file) = c.in_ok-read_piece.ensures.bytes ∙ ap (λ (l : List ℕ). take (count + 1) (drop (end + 5) l)) c.read.ensures.untouched.reads in
    let part_is : c.front.result.now ≡ take count c.read_piece.new.buffer.items = c.front.ensures ∙ ap (take count) c.deref.ensures.value in
    let found : BodyOf kept c.front.result.now (Some c.in-Some.block) = subst (λ (made : Option Block). BodyOf kept c.front.result.now made) c.in-Some.is c.in_ok-block.ensures in
    read_on file c.args.found.now count c.index-flag.result.now c.in-Some.block c.read_piece.new.buffer.items c.front.result.now c.append.new.self head piece_is part_is found (omega (arith, c.if-count-left.false, c.if-left-le5.false, c.requires.size)) c.index-flag.ensures c.in_ok-append-in-Some.ensures.ok

pub returns-in-None-clause-damaged : goal.returns-in-None-clause-damaged
returns-in-None-clause-damaged g c = λ at same.
    let file = g.D.Disk.seen c.args.disk.now in
    let end = c.args.found.now.end in
    let kept = c.args.found.now.kept in
    let count = c.number_in-count.result in
    let head : four count ≡ take 4 (drop (end + 1) file) = c.number_in-count.ensures ∙ c.in_ok-read.ensures.bytes in
    let piece_is : c.read_piece.new.buffer.items ≡ take (count + 1) (drop (end + 5) file) = c.in_ok-read_piece.ensures.bytes ∙ ap (λ (l : List ℕ). take (count + 1) (drop (end + 5) l)) c.read.ensures.untouched.reads in
    let part_is : c.front.result.now ≡ take count c.read_piece.new.buffer.items = c.front.ensures ∙ ap (take count) c.deref.ensures.value in
    let none : BodyOf kept c.front.result.now None = subst (λ (made : Option Block). BodyOf kept c.front.result.now made) c.in-None.is c.in_ok-block.ensures in
    (offset_is end at same, not_read file kept end count c.read_piece.new.buffer.items c.front.result.now c.number_in-count.type_inv head piece_is part_is none)

pub returns-then-left-le5-clause-reaches : goal.returns-then-left-le5-clause-reaches
returns-then-left-le5-clause-reaches g c =
    reach_none g.D.Disk.made g.D.Disk.alike c.args.disk.now

pub returns-in_err-read-clause-reaches : goal.returns-in_err-read-clause-reaches
returns-in_err-read-clause-reaches g c =
    reach_call g.D.Disk.made g.D.Disk.alike c.args.disk.now c.args.disk.now c.read.new.self _ _ (reach_none g.D.Disk.made g.D.Disk.alike c.args.disk.now) c.read.ensures.makes

pub returns-then-count-left-clause-reaches : goal.returns-then-count-left-clause-reaches
returns-then-count-left-clause-reaches g c =
    reach_call g.D.Disk.made g.D.Disk.alike c.args.disk.now c.args.disk.now c.read.new.self _ _ (reach_none g.D.Disk.made g.D.Disk.alike c.args.disk.now) c.read.ensures.makes

pub returns-in_err-read_piece-clause-reaches : goal.returns-in_err-read_piece-clause-reaches
returns-in_err-read_piece-clause-reaches g c =
    reach_then g.D.Disk.made g.D.Disk.alike c.args.disk.now c.read.new.self c.read_piece.new.disk
    (reach_call g.D.Disk.made g.D.Disk.alike c.args.disk.now c.args.disk.now c.read.new.self _ _ (reach_none g.D.Disk.made g.D.Disk.alike c.args.disk.now) c.read.ensures.makes) c.read_piece.ensures.reaches

pub returns-in_err-block-clause-reaches : goal.returns-in_err-block-clause-reaches
returns-in_err-block-clause-reaches g c =
    reach_then g.D.Disk.made g.D.Disk.alike c.args.disk.now c.read.new.self c.read_piece.new.disk
    (reach_call g.D.Disk.made g.D.Disk.alike c.args.disk.now c.args.disk.now c.read.new.self _ _ (reach_none g.D.Disk.made g.D.Disk.alike c.args.disk.now) c.read.ensures.makes) c.read_piece.ensures.reaches

pub returns-in_err-append-in-Some-clause-reaches : goal.returns-in_err-append-in-Some-clause-reaches
returns-in_err-append-in-Some-clause-reaches g c =
    reach_then g.D.Disk.made g.D.Disk.alike c.args.disk.now c.read.new.self c.read_piece.new.disk
    (reach_call g.D.Disk.made g.D.Disk.alike c.args.disk.now c.args.disk.now c.read.new.self _ _ (reach_none g.D.Disk.made g.D.Disk.alike c.args.disk.now) c.read.ensures.makes) c.read_piece.ensures.reaches

pub returns-in_ok-append-in-Some-clause-reaches : goal.returns-in_ok-append-in-Some-clause-reaches
returns-in_ok-append-in-Some-clause-reaches g c =
    reach_then g.D.Disk.made g.D.Disk.alike c.args.disk.now c.read.new.self c.read_piece.new.disk
    (reach_call g.D.Disk.made g.D.Disk.alike c.args.disk.now c.args.disk.now c.read.new.self _ _ (reach_none g.D.Disk.made g.D.Disk.alike c.args.disk.now) c.read.ensures.makes) c.read_piece.ensures.reaches

pub returns-in-None-clause-reaches : goal.returns-in-None-clause-reaches
returns-in-None-clause-reaches g c =
    reach_then g.D.Disk.made g.D.Disk.alike c.args.disk.now c.read.new.self c.read_piece.new.disk
    (reach_call g.D.Disk.made g.D.Disk.alike c.args.disk.now c.args.disk.now c.read.new.self _ _ (reach_none g.D.Disk.made g.D.Disk.alike c.args.disk.now) c.read.ensures.makes) c.read_piece.ensures.reaches
