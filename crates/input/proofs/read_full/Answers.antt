-- What a turn read follows what was read before it, in the input and in the buffer.
use Rattle.std.proofs.Common.{◌≡◌, ◌+◌, ◌-◌, List, ℕ, ◌++◌, rules, length, take, sym, ap, ◌∙◌, subst, le_refl, drop_at, length-take-le, ◌≤◌}
use Rattle.std.proofs.lemmas.Slice.{take-put_mid_below}
use Rattle.std.specs.Io.KnownBytes.{Consumes}
use Rattle.std.proofs.KnownBytes.{Consumes-trans}
use borrow.Rule.Slice.PartMut.{put_mid, post_of}
use lib.Seq.{take-add, take-append-le}
use Rattle.input.proofs.read_full.Goals as goal

-- the front of the buffer, and behind it the first m bytes of the part that was read into
front : (n k m : ℕ) (old part : List ℕ) → n ≤ length old → m ≤ length part → take n old ++ take m part ≡ take (n + m) (put_mid n k old part)
front n k m old part within fits =
    let after = post_of n k old in
    ap (λ l. l ++ take m part) (sym (take-put_mid_below _ _ _ _ _ (le_refl _) within))
    ∙ ap (λ l. take n (put_mid n k old part) ++ l) (sym (take-append-le m part after fits) ∙ ap (take m) (sym (drop_at (take n old) (part ++ after) n (length-take-le n old within))))
    ∙ sym (take-add n m (put_mid n k old part))

pub loop-n-preserved : goal.loop-n-preserved
loop-n-preserved g c =
    let was = c.loop-n.invariant in
    let joined = front c.loop-n.n (length c.loop-n.buffer - c.loop-n.n) c.in_ok-more.more c.loop-n.buffer c.read.new.buf was.1 c.in_ok-more.ensures.bound.0 in
    (search rules, search rules, subst (Consumes _ _) joined (Consumes-trans _ _ _ _ _ was.2 c.in_ok-more.ensures.bytes.0))
