-- The flat answers with a fingerprint: of an image, and of an image that arrived in pieces.
use Rattle.std.specs.Prelude.{replicate}
use Rattle.eif.specs.Answers.{number_of, index_of, position_of}
use Rattle.eif_flat.specs.Flat.{flat_reading}
use Rattle.eif_registers.specs.Registers.{as_digest}
use Rattle.eif_fingerprint.specs.declared.Fingerprinted.{Fingerprinted}
use Rattle.arriving_fingerprint.specs.declared.Finished.{Finished}
use Rattle.eif_c.specs.declared.fingerprint.EifFingerprint.{EifFingerprint}
use Rattle.eif_c.specs.declared.fingerprint.EifFingerprintingFinished.{EifFingerprintingFinished}

abbrev pub flat_fingerprint : Fingerprinted → EifFingerprint
flat_fingerprint f =
    record {
      number = number_of f.verdict;
      reserved = replicate 7 0;
      index = index_of f.verdict;
      position = position_of f.verdict;
      digest = as_digest f.digest;
    }

abbrev pub flat_fingerprinting : Finished → EifFingerprintingFinished
flat_fingerprinting f = record { state = f.state; reading = flat_reading f.reading; digest = as_digest f.digest }
