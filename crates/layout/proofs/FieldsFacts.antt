-- What is proved of specs/Fields.antt.
use Rattle.std.specs.Prelude.{◌≡◌, refl, ℕ, length}
use Rattle.layout.specs.Fields.{le16, le32, le64}

pub length_le16 : (v : ℕ) → length (le16 v) ≡ 2
unfolding le16
length_le16 v = refl

pub length_le32 : (v : ℕ) → length (le32 v) ≡ 4
unfolding le32
length_le32 v = refl

pub length_le64 : (v : ℕ) → length (le64 v) ≡ 8
unfolding le32 le64
length_le64 v = refl
