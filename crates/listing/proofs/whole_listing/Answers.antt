-- `whole_listing` meets its contract: a file is refused or has at most 2,600 records, so its listing fits the buffer.
use mathlib.Core.Bool.{Bool, true, false}
use mathlib.Core.List.{List}
use mathlib.Core.Path.{◌≡◌, refl}
use Prim.Native.Nat.{ℕ, ◌+◌, ◌*◌, ◌≤◌}
use native.Mathlib.Omega.{arith}
use borrow.Author.Tests.{eqb-true, eqb-false, le-ltb}
use lib.Dec.{eqb}
use lib.ListN.{length, take}
use lib.Seq.{take-append_seam}
use Rattle.listing.proofs.Counting.{prefix_len_of_le}
use Rattle.tested.specs.Tested.{tested_of}
use Rattle.catalog.specs.Listing.{listing_of, room_of, listed_size, listed_in}
use Rattle.catalog.proofs.ListingLaws.{room_good, room_refused, size_fits}
use Rattle.text.specs.Text.{written}
use Rattle.header.specs.Header.{version_in}
use Rattle.header.proofs.Versions.{most_le}
use Rattle.tested.proofs.TestedLaws.{accepted_file}
use Rattle.listing.proofs.whole_listing.Goals as goal
use Rattle.listing.proofs.whole_listing.Goals.{After-listing}

most_room : (file : List ℕ) → room_of file ≤ 64 * (2600 + 2)
most_room file = go (eqb (tested_of file).refusal 0) refl
  where
    go : (none : Bool) → eqb (tested_of file).refusal 0 ≡ none → room_of file ≤ 64 * (2600 + 2)
    go true e =
        let ok = eqb-true (tested_of file).refusal 0 e in
        rw (room_good file ok) (omega (arith, (accepted_file file ok).most, most_le (version_in file)))
    go false e = rw (room_refused file (eqb-false (tested_of file).refusal 0 e)) (omega arith)

module _ (file out : List ℕ) (fits : room_of file ≤ length out) where
  whole : take (listed_size file (length out)) (listed_in file out) ≡ listing_of file
  unfolding listed_size listed_in written
  whole = rw (le-ltb (length out) (room_of file) fits) (take-append_seam (listing_of file) _)

fits : (c : After-listing) → room_of c.before.before.before.args.file.now ≤ length c.before.before.before.args.out.now
fits c = omega (arith, most_room c.before.before.before.args.file.now)

pub returns : goal.returns
returns c =
    let e = c.listing.ensures in
    let s = c.before.before.before.args in (
      prefix_len_of_le _ _ (rw (e.size, c.listing.auto.out) (size_fits _ _)),
      rw (e.size, e.text) (whole s.file.now s.out.now (fits c)),
    )
