-- Pieces as four words, and the joined list of them.
use Rattle.std.specs.Prelude.{Bool, not, ◌&&◌, cond, List, [], ◌∷◌, ℕ, ◌+◌, ◌-◌, ◌*◌, leb, ltb, eqb}
use Rattle.laws.specs.Lists.{put, bit}
use Rattle.floats.specs.TotalOrder.{key_of}
use Rattle.drawing.specs.declared.lists.Segment.{Segment}
use Rattle.joining.specs.declared.piece.Piece.{Piece}

-- twice the net and one more where the segment is vertical, so that horizontal ones come first, and the keys of its coordinates
unfoldable pub piece_of : Segment → Piece
piece_of s = record { net_and_orientation = 2 * s.net + (1 - s.orientation); fixed = key_of s.fixed; start = key_of s.start; end = key_of s.end }

unfoldable pub touches_piece : Piece → Piece → Bool
touches_piece c x = eqb c.net_and_orientation x.net_and_orientation && (eqb c.fixed x.fixed && leb x.start c.end)

unfoldable pub extended_piece : Piece → Piece → Piece
extended_piece c x = record { net_and_orientation = c.net_and_orientation; fixed = c.fixed; start = c.start; end = cond (ltb c.end x.end) x.end c.end }

unfoldable pub next_piece : Piece → Piece → Piece
next_piece c x = cond (touches_piece c x) (extended_piece c x) x

-- 1 where x begins a piece of its own
abbrev pub begun : Piece → Piece → ℕ
begun c x = bit (not (touches_piece c x))

-- `join_from` and `pieces`, of pieces
unfoldable pub join_pieces_from : Piece → List Piece → List Piece
join_pieces_from c [] = c ∷ []
join_pieces_from c (x ∷ l) = put (not (touches_piece c x)) c (join_pieces_from (next_piece c x) l)

unfoldable pub joined_pieces : List Piece → List Piece
joined_pieces [] = []
joined_pieces (x ∷ l) = join_pieces_from x l
