-- The serial numbers of each conversation of a network are 0, 1, 2 and so on.
use Rattle.lagnetwork.proofs.Common.{List, Option, [], arith, cond, get_or, length, length-append, ℕ, ◌++◌, ◌<◌, ◌∷◌, ◌≡◌, cases_lt, Act, act}
use Rattle.lagnetwork.proofs.Common.{sent_after, two_cases, AllCountFromZero, IsNetworkInvariant}
use Rattle.std.proofs.lemmas.List.{get_or_append_left, get_or_push}
use Rattle.lagnetwork.proofs.NetworkRuns.{always}
use Rattle.lagnetwork.proofs.Networks.{by_system}

abbrev IsCount : List ℕ → Type 0
IsCount xs = (i : ℕ) → i < length xs → get_or xs i 0 ≡ i

one_more : (xs : List ℕ) → IsCount xs → IsCount (xs ++ length xs ∷ [])
one_more xs h i lt = grind (arith, cases_lt, get_or_append_left, length-append, get_or_push)

counted_act : (o : Option Act) (sent : ℕ → ℕ → List ℕ) → ((g k : ℕ) → IsCount (sent g k)) → (g k : ℕ) → IsCount (sent_after o sent g k)
counted_act o sent h g k = grind (arith, two_cases, IsCount, one_more)

none_sent : (i : ℕ) → i < 0 → ⊥
none_sent i lt = omega arith

pub counts_from_zero : IsNetworkInvariant (λ x w. AllCountFromZero w)
counts_from_zero = always (λ x w. AllCountFromZero w) (record {
  moves = λ x s call stamp m w a h t g k. by_system s
      (λ t b. IsCount ((cond b (sent_after (act (x.setup s) m.0 (w.view s)) (w.sent s)) (w.sent t)) g k))
      (counted_act (act (x.setup s) m.0 (w.view s)) (w.sent s) (h s) g k) (λ t ne. h t g k) t;
  apart = λ x w whole towards count forced h. h;
  handed = λ x t a b g k n w h. h;
  viewed = λ x s v w e h. h;
  succeeded = λ x s setup after w h. h;
  pulled = λ x s p w is h. h;
  plugged = λ x f s p t q w is none free h. h;
}) (λ x s g k i lt. absurd (none_sent i lt))
