-- `file::scan::scan` meets its contract: the parts of the file in sequence, each read from the end of the one before it. Assumes nothing.
use mathlib.Core.Path.{◌≡◌}
use native.Mathlib.Omega.{arith}
use lib.ListN.{get_or}
use Rattle.std.proofs.lemmas.Result.{err_from_is_err_and}
use Rattle.file.proofs.ReadingParts.{no_version, other-version, has_version, segments-of, no_segments, nodes-of, no_nodes, exemptions-of, no_exemptions, other_length, right_header}
use Rattle.file.proofs.scan.scan.Goals as goal

pub returns-in_default-clause-value : goal.returns-in_default-clause-value
returns-in_default-clause-value c = no_version c.args.bytes.now c.in_default.len_below

pub returns-in_default-2-clause-value : goal.returns-in_default-2-clause-value
returns-in_default-2-clause-value c = other-version c.args.bytes.now c.in_default.len_at_least (λ e. omega arith)

pub returns-in_err-segments-clause-value : goal.returns-in_err-segments-clause-value
returns-in_err-segments-clause-value c =
    let l = c.args.bytes.now in
    let one : get_or l 0 0 ≡ 1 = omega arith in
    let v = has_version l c.in-1.len_at_least one in
    let p = err_from_is_err_and c.from_residual.result c.from_residual.ensures.1 in
    rw (p.1, p.2) (no_segments l v _ c.in_err-segments.ensures.counted_entries)

pub returns-in_err-nodes-clause-value : goal.returns-in_err-nodes-clause-value
returns-in_err-nodes-clause-value c =
    let l = c.args.bytes.now in
    let one : get_or l 0 0 ≡ 1 = omega arith in
    let v = has_version l c.in-1.len_at_least one in
    let a = segments-of l v _ c.in_ok-segments.ensures.counted_entries in
    let p = err_from_is_err_and c.from_residual-in_err-nodes.result c.from_residual-in_err-nodes.ensures.1 in
    rw (p.1, p.2) (no_nodes l v _ a _ c.in_err-nodes.ensures.counted_entries)

pub returns-in_err-exemptions-clause-value : goal.returns-in_err-exemptions-clause-value
returns-in_err-exemptions-clause-value c =
    let l = c.args.bytes.now in
    let one : get_or l 0 0 ≡ 1 = omega arith in
    let v = has_version l c.in-1.len_at_least one in
    let a = segments-of l v _ c.in_ok-segments.ensures.counted_entries in
    let b = nodes-of l _ a _ c.in_ok-nodes.ensures.counted_entries in
    let p = err_from_is_err_and c.from_residual-in_err-exemptions.result c.from_residual-in_err-exemptions.ensures.1 in
    rw (p.1, p.2) (no_exemptions l v _ a _ b _ c.in_err-exemptions.ensures.counted_entries)

pub returns-then-bytes-at-clause-value : goal.returns-then-bytes-at-clause-value
returns-then-bytes-at-clause-value c =
    let l = c.args.bytes.now in
    let one : get_or l 0 0 ≡ 1 = omega arith in
    let v = has_version l c.in-1.len_at_least one in
    let a = segments-of l v _ c.in_ok-segments.ensures.counted_entries in
    let b = nodes-of l _ a _ c.in_ok-nodes.ensures.counted_entries in
    let k = exemptions-of l _ _ b _ c.in_ok-exemptions.ensures.counted_entries in
    other_length l v _ a _ b _ k (λ q. omega (arith, c.if-bytes-at.true))

pub returns-clause-value : goal.returns-clause-value
returns-clause-value c =
    let l = c.args.bytes.now in
    let one : get_or l 0 0 ≡ 1 = omega arith in
    let v = has_version l c.in-1.len_at_least one in
    let a = segments-of l v _ c.in_ok-segments.ensures.counted_entries in
    let b = nodes-of l _ a _ c.in_ok-nodes.ensures.counted_entries in
    let k = exemptions-of l _ _ b _ c.in_ok-exemptions.ensures.counted_entries in
    right_header l v _ a _ b _ k _ (omega (arith, c.if-bytes-at.false)) c.header_at.ensures
