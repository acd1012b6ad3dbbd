-- Values that lie scattered over listed pages of a buffer.
use Rattle.std.specs.Prelude.{◌≡◌, ◌<◌, ℕ, ◌+◌, ◌*◌, ◌/◌, ◌%◌, Bool, true, ◌&&◌, not, List, [], ◌∷◌, length, take, drop, slice_index_or, Option, nat_le, ◌==◌}
use Rattle.std.specs.List.{list_all, list_any, flat_map}
use Rattle.cells.specs.Cells.{marked_count}

-- page p of a buffer: 256 bytes from byte 256 p on
abbrev pub page : List ℕ → ℕ → List ℕ
page buffer p = take 256 (drop (256 * p) buffer)

-- the listed pages, one after the other
abbrev pub gathered : List ℕ → List ℕ → List ℕ
gathered buffer pages = flat_map (page buffer) pages

-- where byte m of the listed pages lies in the buffer
abbrev pub place : List ℕ → ℕ → ℕ
place pages m = 256 * slice_index_or pages (m / 256) 0 + m % 256

abbrev pub pages_capacity : List ℕ → ℕ
pages_capacity pages = 256 * length pages

-- each page lies wholly in a buffer of so many bytes
abbrev pub inside : ℕ → List ℕ → Bool
inside size pages = list_all (λ p. nat_le (256 * p + 256) size) pages

-- no page is listed twice
abbrev pub distinct : List ℕ → Bool
distinct [] = true
distinct (p ∷ ps) = not (list_any (λ q. q == p) ps) && distinct ps

abbrev pub pages_fit : ℕ → List ℕ → Option ℕ → Bool
pages_fit size pages mark =
    nat_le (length pages) 16 && (inside size pages && (distinct pages && nat_le (marked_count mark) (pages_capacity pages)))

-- each byte of the pages is the one at its place
abbrev pub PlacesStand : Type 0
PlacesStand = (buffer pages : List ℕ) (m d : ℕ) → inside (length buffer) pages ≡ true → m < 256 * length pages
    → slice_index_or (gathered buffer pages) m d ≡ slice_index_or buffer (place pages m) d
