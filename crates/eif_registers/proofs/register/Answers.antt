use Prim.Native.Nat.{ℕ}
use mathlib.Core.Path.{◌≡◌, sym, ap, ap₂, ◌∙◌}
use mathlib.Core.List.{List, ◌++◌}
use lib.ListN.{length, replicate}
use Rattle.sha384_block.specs.Fips.{digest_size}
use Rattle.sha384.specs.State.{updated, digest_from}
use Rattle.sha384.specs.declared.State.{State}
use Rattle.sha384.specs.declared.Updated.{Updated}
use Rattle.eif_registers.specs.Registers.{register_from}
use Rattle.eif_registers.proofs.Hashed.{digest_one, second_half, both_short}
use borrow.Author.Rules.{rules}
use Rattle.eif_registers.proofs.register.Goals as goal

-- `eif_registers::register` meets its contract: forty-eight zero bytes and the digest are one short piece from the fresh state. Assumes nothing.
pub returns : goal.returns
unfolding register_from
returns c = let st = c.args.state in
    let d = c.finish-digest in
    let size : length d.result ≡ digest_size = search rules in
    let same = d.ensures in
    let n : length (digest_from st) ≡ digest_size = sym (ap length same) ∙ size in
    let both : c.copy.new.out ≡ replicate digest_size 0 ++ digest_from st = c.copy.ensures ∙ second_half d.result size ∙ ap (λ (x : List ℕ). replicate digest_size 0 ++ x) same in
    c.finish.ensures
    ∙ ap (λ (u : Updated). digest_from u.state) (c.update-updated.ensures ∙ ap₂ (λ (x : State) (l : List ℕ). updated x l) c.new.ensures both)
    ∙ digest_one (replicate digest_size 0 ++ digest_from st) (both_short (digest_from st) n)
