-- What an exported call returns and writes of its measure's answer is the answer's number and values. Assumes nothing.
use Rattle.std.specs.Prelude.{◌≡◌, List, ℕ, Option, Result, Ok, Err}
use Rattle.std.specs.Float.Ieee.{to_bits}
use Rattle.std.proofs.Common.{refl}
use Rattle.drawing.specs.declared.refusal.Refusal.{Refusal}
use Rattle.clearance.specs.declared.report.EdgeNodeClearance.{EdgeNodeClearance}
use Rattle.clearance.specs.Answer as ofClearance
use Rattle.separation.specs.declared.report.ParallelSeparation.{ParallelSeparation}
use Rattle.separation.specs.Answer as ofSeparation
use Rattle.congestion.specs.declared.report.CongestionReport.{CongestionReport}
use Rattle.congestion.specs.Answer as ofCongestion
use Rattle.joining.specs.declared.answer.Joined.{Joined}
use Rattle.joining.specs.Answer as ofJoining
use Rattle.tight_pair.specs.declared.TightPair.{TightPair}
use Rattle.tight_pair.specs.TightPair as ofTightPair
use Rattle.exports.specs.Words.{present_word, bits_word, clearance_words, separation_words, congestion_words, join_words, pair_words}
use Rattle.exports.specs.Inner.Written.{status, words_or_zeros}

-- both at once: the number, and the words
abbrev Told : {A : Type 0} → (A → List ℕ) → ℕ → Result A Refusal → ℕ → List ℕ → Type 0
Told words n a number written = (status a ≡ number) × (words_or_zeros words n a ≡ written)

pub clearance-told : (a : Result EdgeNodeClearance Refusal) → Told clearance_words 4 a (ofClearance.result_of a).0 (clearance_words (ofClearance.result_of a).1)
unfolding status words_or_zeros ofClearance.result_of clearance_words present_word bits_word
clearance-told (Ok r) = (refl, refl)
clearance-told (Err w) = (refl, refl)

pub separation-told : (a : Result ParallelSeparation Refusal) → Told separation_words 5 a (ofSeparation.result_of a).0 (separation_words (ofSeparation.result_of a).1)
unfolding status words_or_zeros ofSeparation.result_of separation_words present_word bits_word
separation-told (Ok r) = (refl, refl)
separation-told (Err w) = (refl, refl)

pub congestion-told : (a : Result CongestionReport Refusal) → Told congestion_words 7 a (ofCongestion.result_of a).0 (congestion_words (ofCongestion.result_of a).1)
unfolding status words_or_zeros ofCongestion.result_of congestion_words present_word bits_word to_bits
congestion-told (Ok r) = (refl, refl)
congestion-told (Err w) = (refl, refl)

pub join-told : (a : Result Joined Refusal) → Told (λ j. join_words (0, j.pieces, j.gone)) 2 a (ofJoining.result_of a).0 (join_words (ofJoining.result_of a))
unfolding status words_or_zeros ofJoining.result_of join_words
join-told (Ok j) = (refl, refl)
join-told (Err w) = (refl, refl)

pub pair-told : (a : Result (Option TightPair) Refusal) → Told pair_words 3 a (ofTightPair.result_of a).0 (pair_words (ofTightPair.result_of a).1)
unfolding status words_or_zeros ofTightPair.result_of pair_words
pair-told (Ok p) = (refl, refl)
pair-told (Err w) = (refl, refl)
