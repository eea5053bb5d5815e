use mathlib.Core.Path.{◌≡◌, ◌∙◌, sym, ap}
use mathlib.Core.Bool.{true, not}
use Rattle.eif.specs.Rules.{boot_type}
use Rattle.eif_lemmas.proofs.Types.{not_kept}
use Rattle.stream_reader.proofs.Kept.{kept_whole, kept_boot, kept_app}
use Rattle.stream_reader.proofs.is_kept.Goals as goal
use Rattle.stream_reader.proofs.is_kept.Goals.{After-is_later-later}

-- `stream_reader::is_kept` meets its contract: only kernel, command line and ramdisk are kept, and of these by the stream.
-- Assumes nothing.
pub returns-then-not-is_boot : goal.returns-then-not-is_boot
returns-then-not-is_boot c = let a = c.args in
    sym (not_kept a.stream a.kind a.before (sym c.is_boot.ensures ∙ c.if-not-is_boot.true))

module _ (c : After-is_later-later) where
  boot : boot_type c.args.kind ≡ true
  boot = sym c.is_boot.ensures ∙ c.if-not-is_boot.false

pub returns-in-Whole : goal.returns-in-Whole
returns-in-Whole c = let w = (goal.at.returns-in-Whole c).After-is_later-later in
    let a = w.args in
    kept_whole a.kind a.before a.stream (boot w) c.in-Whole.is

pub returns-in-Boot : goal.returns-in-Boot
returns-in-Boot c = let w = (goal.at.returns-in-Boot c).After-is_later-later in
    let a = w.args in
    ap not w.is_later-later.ensures ∙ kept_boot a.kind a.before a.stream (boot w) c.in-Boot.is

pub returns-in-App : goal.returns-in-App
returns-in-App c = let w = (goal.at.returns-in-App c).After-is_later-later in
    let a = w.args in
    w.is_later-later.ensures ∙ kept_app a.kind a.before a.stream c.in-App.is
