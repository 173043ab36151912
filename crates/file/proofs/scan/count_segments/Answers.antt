-- `file::scan::count_segments` meets its contract: a list of segments is one of entries of 29 bytes, and has no other fault than its orientation bytes. Assumes nothing.
use mathlib.Core.Path.{sym, ◌∙◌}
use mathlib.Core.Bool.{true, false}
use lib.ListN.{drop}
use Rattle.std.proofs.lemmas.Result.{err_from_is_err_and}
use Rattle.file.proofs.FixedLists.{refused-same, count_wrong, count-right}
use Rattle.file.proofs.FixedParts.{fixed-segment}
use Rattle.file.proofs.ReadingParts.{counted_of, orientation_as}
use Rattle.file.proofs.scan.count_segments.Goals as goal

pub returns-in_err-count-clause-counted_entries : goal.returns-in_err-count-clause-counted_entries
returns-in_err-count-clause-counted_entries c = let p = err_from_is_err_and c.from_residual.result c.from_residual.ensures.1 in rw (p.1, p.2) (refused-same fixed-segment 120 _ _ c.in_err-count.ensures.counted_entries)

pub returns-then-above_one-clause-counted_entries : goal.returns-then-above_one-clause-counted_entries
returns-then-above_one-clause-counted_entries c =
    let l = c.args.bytes.now in
    let there = counted_of (drop 1 l) _ c.in_ok-count.ensures.counted_entries in
    let test = orientation_as l _ true (sym c.above_one.ensures ∙ c.if-above_one.true) in
    count_wrong fixed-segment 120 (drop 1 l) _ there test

pub returns-clause-counted_entries : goal.returns-clause-counted_entries
returns-clause-counted_entries c =
    let l = c.args.bytes.now in
    let there = counted_of (drop 1 l) _ c.in_ok-count.ensures.counted_entries in
    let test = orientation_as l _ false (sym c.above_one.ensures ∙ c.if-above_one.false) in
    count-right fixed-segment 120 (drop 1 l) _ there test
