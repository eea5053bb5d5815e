use Prim.Native.Nat.{ℕ}
use mathlib.Core.Path.{ap, ap₂, ◌∙◌}
use mathlib.Core.List.{List}
use Rattle.eif.specs.declared.Reading.{Reading}
use Rattle.eif.specs.declared.Verdict.{Verdict}
use Rattle.eif_fingerprint.specs.Fingerprint.{read_fingerprint}
use Rattle.eif_fingerprint.specs.declared.Fingerprinted.{Fingerprinted}
use Rattle.eif_c.specs.Fingerprint.{flat_fingerprint}
use Rattle.eif_c.proofs.readings.eif_read_fingerprint.Goals as goal

-- `eif_read_fingerprint` meets its contract: the fingerprint by the reading, made flat.
abbrev with : Verdict → List ℕ → Fingerprinted
with v l = record { verdict = v; digest = l }

pub returns : goal.returns
returns c = let step = c in
    let s = step.args.image.now in
    c.flat_fingerprint.ensures
    ∙ ap (λ (f : Fingerprinted). flat_fingerprint f)
    (ap₂ with c.given_verdict-verdict.ensures (step.step-digest.ensures ∙ ap (λ (r : Reading). read_fingerprint s r) step.given_reading.ensures))
