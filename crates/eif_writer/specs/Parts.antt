-- What single functions of the writer write: the header's fixed fields in two parts, as one function that writes all seven is more than
-- its proof can be searched for. That the two parts, the tables and a reserved field are the header of Plan.antt of eif is `header_parts`, in
-- proofs/Image.antt.
-- Assumes nothing.
use Rattle.std.specs.Prelude.{ℕ, List, ◌++◌, eqb, replicate}
use Rattle.octets.specs.Bytes.{be_bytes}
use Rattle.octets.specs.Logic.{choose}
use Rattle.eif.specs.Layout.{magic_number, header_size}
use Rattle.eif.specs.Plan.{header_bytes}
use Rattle.eif.specs.declared.Plan.{Plan}
use Rattle.plan_judge.specs.Size.{image_size}

-- the header's first fields, 8 bytes, and those between them and the tables, 20 bytes
unfoldable pub first_fields : Plan → List ℕ
first_fields p = be_bytes 4 magic_number ++ (be_bytes 2 p.version ++ be_bytes 2 p.flags)

unfoldable pub next_fields : Plan → List ℕ
next_fields p = be_bytes 8 p.default_mem ++ (be_bytes 8 p.default_cpus ++ (be_bytes 2 0 ++ be_bytes 2 p.count))

-- the whole header, with a number in the checksum field; zeros where the plan has no image of a size within the limit
unfoldable pub header_with : Plan → ℕ → List ℕ
header_with p field = choose (eqb (image_size p) 0) (replicate header_size 0) (header_bytes p ++ be_bytes 4 field)
