-- The merge of two images, as document 01 says it.
use Rattle.std.specs.Prelude.{ℕ, not, List, [], ◌∷◌}
use Rattle.tables.specs.Refusal.{◌if◌}
use Rattle.replica.specs.Rules.{merge}
use Rattle.layout.specs.Image.{good_image, image_of}
use Rattle.results.specs.Call.{Call}

-- 1 and 2: "the first / second replica isn't a well-formed image"; the result is the merge of the two replicas
unfoldable pub merge_call : List ℕ → List ℕ → Call
merge_call a b = record {
  refusals = 1 if not (good_image a) ∷ 2 if not (good_image b) ∷ [];
  result = merge (image_of a) (image_of b);
}
