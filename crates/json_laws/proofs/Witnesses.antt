-- Bytes that the relations of json's Verdict hold of, and values that they reject, from what the machine computes.
use mathlib.Core.Path.{refl}
use mathlib.Core.List.{[], ◌∷◌}
use native.Mathlib.Omega.{arith}
use lib.Dec.{lit<}
use Rattle.json_grammar.specs.Verdict.{IsText, CanBegin, FaultsFirstAt}
use Rattle.json_machine.specs.Table.{classes, rows}
use Rattle.json_machine.specs.Machine.{json_verdict, walk_from, ends_of, kind_of, act_of, entry_of, after_of}
use Rattle.json_laws.proofs.Laws.{accepted_exactly_when, place_exactly_when}

-- "1", "1e5" and their beginnings
text_holds : IsText (0x31 ∷ []) × IsText (0x31 ∷ 0x65 ∷ 0x35 ∷ [])
unfolding json_verdict walk_from ends_of kind_of act_of entry_of after_of classes rows
text_holds = ((accepted_exactly_when (0x31 ∷ [])).0 refl, (accepted_exactly_when (0x31 ∷ 0x65 ∷ 0x35 ∷ [])).0 refl)

cut_faults : FaultsFirstAt (0x31 ∷ 0x65 ∷ []) 2
unfolding json_verdict walk_from ends_of kind_of act_of entry_of after_of classes rows
cut_faults = (place_exactly_when (0x31 ∷ 0x65 ∷ []) 2).0 refl

letter_faults : FaultsFirstAt (0x31 ∷ 0x66 ∷ 0x31 ∷ []) 1
unfolding json_verdict walk_from ends_of kind_of act_of entry_of after_of classes rows
letter_faults = (place_exactly_when (0x31 ∷ 0x66 ∷ 0x31 ∷ []) 1).0 refl

-- rejected: "1e" is no text; "1e" can begin one, and "1f" cannot
text_rejects : IsText (0x31 ∷ 0x65 ∷ []) → ⊥
text_rejects = cut_faults.no_text

begin_holds : CanBegin (0x31 ∷ 0x65 ∷ [])
begin_holds = cut_faults.before

begin_rejects : CanBegin (0x31 ∷ 0x66 ∷ []) → ⊥
begin_rejects = letter_faults.there (lit< tt)

-- rejected: a text; a place one too late, one too early, and past the end
faults_reject :
    (FaultsFirstAt (0x31 ∷ []) 1 → ⊥) × (FaultsFirstAt (0x31 ∷ 0x66 ∷ 0x31 ∷ []) 2 → ⊥)
    × (FaultsFirstAt (0x31 ∷ 0x65 ∷ []) 1 → ⊥) × (FaultsFirstAt (0x31 ∷ 0x65 ∷ []) 3 → ⊥)
faults_reject =
    (λ f. f.no_text text_holds.0, λ f. begin_rejects f.before, λ f. f.there (lit< tt) begin_holds, λ f. let h = f.within in omega arith)
