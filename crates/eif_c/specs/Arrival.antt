-- The flat answer of the reader of an image that arrives in pieces.
-- Assumes nothing.
use Rattle.arriving.specs.declared.Finished.{Finished}
use Rattle.eif_flat.specs.Flat.{flat_reading}
use Rattle.eif_c.specs.declared.arrival.EifArrivingFinished.{EifArrivingFinished}

abbrev pub flat_finished : Finished → EifArrivingFinished
flat_finished f = record { state = f.state; reading = flat_reading f.reading }
