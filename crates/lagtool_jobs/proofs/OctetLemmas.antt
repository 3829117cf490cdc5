-- The octets of a sink or a source over several calls.
use Rattle.lagtool_jobs.proofs.Common.{List, None, Option, Some, [], ap, append-nil, append_assoc, refl, sym, ℕ, ◌++◌, ◌∙◌, Appends, Consumes}

pub appends_none : (old : Option (List ℕ)) → Appends old old []
appends_none None = tt
appends_none (Some xs) = sym (append-nil xs)

pub appends_both : (old mid new : Option (List ℕ)) (xs ys : List ℕ) → Appends old mid xs → Appends mid new ys → Appends old new (xs ++ ys)
appends_both None mid new xs ys h k = tt
appends_both (Some o) None new xs ys h k = absurd h
appends_both (Some o) (Some m) None xs ys h k = k
appends_both (Some o) (Some m) (Some n) xs ys h k = k ∙ ap (λ zs. zs ++ ys) h ∙ append_assoc o xs ys

pub consumes_none : (old : Option (List ℕ)) → Consumes old old []
consumes_none None = tt
consumes_none (Some xs) = refl

pub consumes_both : (old mid new : Option (List ℕ)) (xs ys : List ℕ) → Consumes old mid xs → Consumes mid new ys → Consumes old new (xs ++ ys)
consumes_both None mid new xs ys h k = tt
consumes_both (Some o) None new xs ys h k = absurd h
consumes_both (Some o) (Some m) None xs ys h k = k
consumes_both (Some o) (Some m) (Some n) xs ys h k = h ∙ ap (λ zs. xs ++ zs) k ∙ sym (append_assoc xs ys n)
