-- Computed streams of an image while it arrives: the worked example of FORMAT.md (kernel 4b, command line 61, an empty ramdisk) with a second
-- ramdisk of one byte, 72, behind it. The second ramdisk is in Whole and App, the other sections are in Whole and Boot.
use Rattle.std.specs.Prelude.{ℕ, ◌≡◌, refl, List, [], ◌∷◌, ◌++◌, map, take, replicate}
use Rattle.octets.specs.Bytes.{field, be_value}
use Rattle.octets.specs.Over.{over}
use Rattle.eif.specs.Stream.{keeps}
use Rattle.eif.specs.Table.{join_from}
use Rattle.eif.specs.Worked.{worked_image}
use Rattle.eif.specs.declared.Stream.TheVariants.{Whole, Boot, App}
use Rattle.arriving_sections_laws.specs.Given.{ordered_from, data_so_far}
use Rattle.arriving_registers.specs.Measuring.{ramdisks_at}
use Rattle.arriving_registers_laws.specs.Streams.{measured_so_far, stream_so_far}

-- four sections: the count at 26, the offset 586 and the size 1 of the fourth section, and behind the third section the fourth
abbrev later_ramdisk_image : List ℕ
later_ramdisk_image =
    over (over (over worked_image 26 (0 ∷ 4 ∷ [])) 58 (0x02 ∷ 0x4a ∷ [])) 315 (1 ∷ []) ++ 0 ∷ 3 ∷ replicate 9 0 ++ 1 ∷ 0x72 ∷ []

-- after 574, 598 and 599 bytes, each of Whole, Boot and App
pub arrived_streams :
    map (λ (n : ℕ). map (stream_so_far (take n later_ramdisk_image)) (Whole ∷ Boot ∷ App ∷ [])) (574 ∷ 598 ∷ 599 ∷ [])
    ≡ ((0x4b ∷ 0x61 ∷ []) ∷ (0x4b ∷ 0x61 ∷ []) ∷ [] ∷ [])
    ∷ ((0x4b ∷ 0x61 ∷ []) ∷ (0x4b ∷ 0x61 ∷ []) ∷ [] ∷ [])
    ∷ ((0x4b ∷ 0x61 ∷ 0x72 ∷ []) ∷ (0x4b ∷ 0x61 ∷ []) ∷ (0x72 ∷ []) ∷ []) ∷ []
unfolding stream_so_far measured_so_far join_from keeps ramdisks_at data_so_far ordered_from over field be_value
arrived_streams = refl
