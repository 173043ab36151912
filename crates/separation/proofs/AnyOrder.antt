-- SCOPE 9.4: "List order decides nothing in a report": every order of the segments gives one walk, with its visits, and one set of figures. Assumes nothing.
use mathlib.Core.Path.{◌≡◌, sym, ap, ◌∙◌}
use mathlib.Core.List.{List}
use Rattle.laws.specs.Lists.{All}
use Rattle.laws.specs.Perm.{Perm}
use Rattle.laws.specs.Charged.{Charged}
use Rattle.laws.proofs.Perms.{perm-all}
use Rattle.drawing.specs.Entries.{Segment}
use Rattle.rows.proofs.Oriented.{oriented_any}
use Rattle.separation.specs.Figures.{Figures, figures}
use Rattle.separation.specs.Walk.{walk_all, visit_count}
use Rattle.separation.specs.Answer.{all_pairs}
use Rattle.separation.proofs.Fit.{Fit}
use Rattle.separation.proofs.WalkFigures.{walk-figures}

module _ {l r : List Segment} (p : Perm l r) where
  pub walk_any : walk_all l ≡ walk_all r
  unfolding walk_all
  walk_any = rw (oriented_any 1 p, oriented_any 0 p)

  pub visits_any : visit_count l ≡ visit_count r
  unfolding visit_count
  visits_any = ap (λ (c : Charged Figures). c.cost) walk_any

  pub figures_any : All Fit l → figures l ≡ figures r
  figures_any fit = sym (walk-figures l fit) ∙ ap (λ (c : Charged Figures). c.value) walk_any ∙ walk-figures r (perm-all Fit p fit)

  pub all-pairs_any : All Fit l → all_pairs l ≡ all_pairs r
  unfolding all_pairs
  all-pairs_any fit = λ i. record { value = figures_any fit i; cost = visits_any i }

-- the walk of fit segments is their all-pairs report with its visits
pub walk-all-pairs : (l : List Segment) → All Fit l → walk_all l ≡ all_pairs l
unfolding all_pairs visit_count
walk-all-pairs l fit = λ i. record { value = walk-figures l fit i; cost = (walk_all l).cost }
