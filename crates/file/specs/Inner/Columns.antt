-- On the notion of specs/Columns.antt: what only contracts of inner functions and proofs cite.
use Rattle.file.specs.declared.reading.Header.{Header}
use Rattle.file.specs.Reading.{Settings}

-- the settings of a header
unfoldable pub settings_of : Header → Settings
settings_of h = record { threshold = h.threshold; cutoff = h.cutoff; clearance = h.clearance; separation = h.separation; congestion = h.congestion }
