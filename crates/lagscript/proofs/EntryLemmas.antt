-- What holds of a word holds of an equal name.
use Rattle.lagscript.proofs.Common.{List, bytes_eq, subst, sym, true, ℕ, ◌≡◌}
use Rattle.std.proofs.lemmas.Slice.Eq.{bytes_eq-Decides}

pub of_name : (P : List ℕ → Type 0) (name word : List ℕ) → bytes_eq name word ≡ true → P word → P name
of_name P name word same h = subst P (sym ((bytes_eq-Decides name word).0 same)) h
