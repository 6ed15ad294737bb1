-- The table of kill lines: line i has 16 numbers from place 16 i on, one for each actor of a clock v.
use Rattle.std.specs.Prelude.{ℕ, zero, suc, ◌+◌, ◌*◌, max, min, Bool, List, [], ◌∷◌, ◌++◌, map, ltb, length, take, set, get_or, replicate}
use Rattle.std.proofs.lemmas.List.Edits.{sets}
use Rattle.tables.specs.Table.{pick}
use Rattle.tables.specs.Zip.{Rows, said}
use Rattle.dots.specs.Dot.{dots, actor_of}
use Rattle.dots.specs.Clock.{Clock}
use Rattle.replica.specs.Replica.{Wait, member_rows}
use Rattle.layout.specs.Fields.{u32_at}
use Rattle.layout.specs.Clock.{clock_end}
use Rattle.layout.specs.Rows.{members_at}
use Rattle.fields.specs.Read.{clock_read}

module _ (N : Rows) where
  -- the rows of a table from a key on
  abbrev pub reach : ℕ → List N.Row → List N.Row
  reach k [] = []
  reach k (r ∷ rs) = pick (ltb (N.key r) k) (reach k rs) (r ∷ rs)

  -- what a table says of each of some ascending keys, in one walk along it
  abbrev pub along : List ℕ → List N.Row → List N.Val
  along [] rs = []
  along (k ∷ ks) rs = said N k (reach k rs) ∷ along ks (reach k rs)

-- the counters of a clock along the actors of v, and zeros
unfoldable pub line_of : Clock → Clock → List ℕ
line_of v c = sets (replicate 16 0) 0 (along dots (map (λ d. actor_of d) v) c)

-- the numbers from a place on, raised to those of a line
unfoldable pub raise_from : List ℕ → ℕ → List ℕ → List ℕ
raise_from t p [] = t
raise_from t p (x ∷ xs) = raise_from (set t p (max (get_or t p 0) x)) (suc p) xs

-- from line i on, each marked line raised
unfoldable pub raised : List ℕ → ℕ → List Bool → List ℕ → List ℕ
raised t i [] xs = t
raised t i (b ∷ bs) xs = raised (pick b (raise_from t (16 * i) xs) t) (suc i) bs xs

-- the lines of some members, raised by waiting removes
unfoldable pub kill_lines : Clock → List ℕ → List Wait → List ℕ → List ℕ
kill_lines v ms [] t = t
kill_lines v ms (w ∷ ws) t = kill_lines v ms ws (raised t 0 (along member_rows ms w.members) (line_of v w.clock))

-- a line raised by waiting removes, whatever members they name
unfoldable pub top_from : Clock → List Wait → List ℕ → List ℕ
top_from v [] t = t
top_from v (w ∷ ws) t = top_from v ws (raise_from t 0 (line_of v w.clock))

-- for each actor of v the largest counter that waiting removes have for it
abbrev pub top_line : Clock → List Wait → List ℕ
top_line v ws = top_from v ws (replicate 16 0)

-- n lines, each the floor
unfoldable pub spread : ℕ → List ℕ → List ℕ
spread zero floor = []
spread (suc n) floor = floor ++ spread n floor

-- the table of some members: their lines are the floor, raised by waiting removes; what stands after them in the table stays
unfoldable pub kill_table : Clock → List ℕ → List Wait → List ℕ → List ℕ → List ℕ
kill_table v ms ws floor t = kill_lines v ms ws (sets t 0 (spread (length ms) floor))

-- ---- read from bytes at given places: at most 16 dots and 64 members of a waiting remove (an argument list is handed over as one)

unfoldable pub members_of : List ℕ → List ℕ → ℕ → List ℕ
members_of s places n = map (λ p. u32_at s p) (take n places)

unfoldable pub wait_read : List ℕ → ℕ → Wait
wait_read t p = record { clock = clock_read t p; members = members_at t (clock_end t p + 4) (min (u32_at t (clock_end t p)) 64) }

unfoldable pub waits_of : List ℕ → List ℕ → ℕ → List Wait
waits_of t places k = map (λ p. wait_read t p) (take k places)
