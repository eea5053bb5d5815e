-- The numbers of the first two rules of a staged view that apply, by computation from their list: each answer of `staged/specs/Worked` with the rule
-- that would apply next. Numbers are written out.
use Rattle.std.specs.Prelude.{◌≡◌, refl, [], ◌∷◌}
use Rattle.octets.specs.Bytes.{field, be_value}
use Rattle.octets.specs.Over.{over}
use Rattle.eif.specs.Table.{join_from}
use Rattle.eif.specs.Rules.{allowed_in, seen, missing}
use Rattle.eif.specs.Layout.{packed_by}
use Rattle.eif.specs.Reading.{checksum_of, read_view}
use Rattle.eif.specs.Order.{view_rules, header_rules, section_rules, type_rules, order_rules}
use Rattle.eif.specs.Worked.{worked_image, other_checksum}
use Rattle.eif.proofs.Worked.{worked_checksum, worked_accepted}
use Rattle.eif_laws.specs.Orders.{first_two}
use Rattle.staged.specs.Staged.{staged_plan}
use Rattle.staged.specs.Order.{staged_rules}

-- 13, the last of the base's own, and 27: the checksum's last byte is another, and there is no section 3
pub checksum_before_number : first_two (staged_rules other_checksum 0 3 3) ≡ 13 ∷ 27 ∷ []
unfolding over staged_rules view_rules header_rules section_rules type_rules order_rules join_from allowed_in seen missing field be_value checksum_of
checksum_before_number = rw worked_checksum refl

-- 27 and 1: there is no section 3, and the image written afresh is one byte longer than the longest
pub number_before_length : first_two (staged_rules worked_image 1073741239 2 3) ≡ 27 ∷ 1 ∷ []
unfolding staged_rules staged_plan read_view packed_by view_rules header_rules section_rules type_rules order_rules join_from allowed_in seen missing field be_value
number_before_length = rw (worked_accepted, worked_checksum) refl
