-- The steps of the replacement in a line.
use Rattle.std.proofs.Common.{◌≡◌, ℕ, ◌+◌, ◌≤◌, ◌<◌, List, length, drop, get_or, ◌∙◌, ap}
use Rattle.std.proofs.lemmas.List.{drop_all}
use Rattle.std.specs.Prelude.{Ok, Err}
use Rattle.rc_text.specs.declared.token.Token.{Token}
use Rattle.rc_expand.specs.declared.fault.ExpandFault.{ExpandFault}
use Rattle.rc_instr.specs.Results.{and_then}
use Rattle.rc_expand.specs.Contexts.{ContextView}
use Rattle.rc_expand.specs.Replace.{TokensSoFarView, token_or_body, equ_body, body_within, tokens_within}
use Rattle.rc_expand.proofs.Each.{split_at}

module _ (context : ContextView) (levels : ℕ) (tokens : List Token) (i : ℕ) (r : TokensSoFarView) where
  module _ (t : Token) (some : i < length tokens) (is : t ≡ get_or tokens i t) where
    -- one token, and the tokens after it
    step : tokens_within context levels (drop i tokens) r ≡ and_then (tokens_within context levels (drop (i + 1) tokens)) (token_or_body (body_within context levels) t (equ_body context t) r)
    step = ap (λ ts. tokens_within context levels ts r) (split_at tokens i t some is)

    pub next : (s : TokensSoFarView) → token_or_body (body_within context levels) t (equ_body context t) r ≡ Ok s → tokens_within context levels (drop i tokens) r ≡ tokens_within context levels (drop (i + 1) tokens) s
    next s e = step ∙ ap (and_then (tokens_within context levels (drop (i + 1) tokens))) e

    pub fails : (f : ExpandFault) → token_or_body (body_within context levels) t (equ_body context t) r ≡ Err f → tokens_within context levels (drop i tokens) r ≡ Err f
    fails f e = step ∙ ap (and_then (tokens_within context levels (drop (i + 1) tokens))) e

  -- no token is left
  pub ends : length tokens ≤ i → tokens_within context levels (drop i tokens) r ≡ Ok r
  ends h = ap (λ ts. tokens_within context levels ts r) (drop_all i tokens h)
