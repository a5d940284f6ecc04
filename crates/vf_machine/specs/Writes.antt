-- New words at addresses, as a turn gives them.
use Rattle.std.specs.Prelude.{◌≡◌, ◌≢◌, ℕ, suc, ◌/◌, ◌<◌, Bool, true, false, ◌&&◌, ◌||◌, ◌==◌, nat_le, List, [], ◌∷◌, length, slice_index, slice_set}
use Rattle.vf_base.specs.declared.write.TheConstants.{PAGE_WORDS}
use Rattle.vf_base.specs.declared.write.Write.{Write}

-- the words after the writes
abbrev pub written : List ℕ → List Write → List ℕ
written words [] = words
written words (write ∷ more) = written (slice_set words write.at write.word) more

-- the addresses rise, from an address on
abbrev pub rises_from : ℕ → List Write → Bool
rises_from at [] = true
rises_from at (write ∷ more) = nat_le at write.at && rises_from (suc write.at) more

-- each write is inside the words, and changes the word at its address
abbrev pub AllChange : List ℕ → List Write → Type 0
AllChange words [] = Unit {0}
AllChange words (write ∷ more) = (write.at < length words) × (slice_index words write.at ≢ write.word) × AllChange words more

-- each address is below the number of words
abbrev pub AllInside : ℕ → List Write → Type 0
AllInside count [] = Unit {0}
AllInside count (write ∷ more) = (write.at < count) × AllInside count more

-- these writes, each by its own address in rising order, are just what differs
pub record IsChange (before after : List ℕ) (writes : List Write) : Type 0 where
  pub rises : rises_from 0 writes ≡ true
  pub change : AllChange before writes
  pub result : written before writes ≡ after

-- whether an address of the writes is on the page
abbrev pub writes_page : List Write → ℕ → Bool
writes_page [] page = false
writes_page (write ∷ more) page = (write.at / PAGE_WORDS == page) || writes_page more page
