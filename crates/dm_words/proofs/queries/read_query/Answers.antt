use Rattle.std.proofs.Common.{◌≡◌, ℕ, List, ◌∷◌, sym, ap, subst, ◌∙◌, map, filter, string_bytes, false, true}
use Rattle.dm_words.specs.Options.{is_name}
use Rattle.dm_words.specs.Words.{AreKnown}
use Rattle.dm_words.specs.declared.options.QueryKind.{QueryKind}
use Rattle.dm_words.specs.declared.options.Kind.TheVariants.{Query}
use Rattle.dm_words.proofs.OneCommand.{first_name}
use Rattle.dm_words.proofs.queries.read_query.Goals as goal

pub returns-then-not-are_known : goal.returns-then-not-are_known
returns-then-not-are_known c = λ asked kind asks.
    let known : AreKnown (Query c.args.kind) (map string_bytes c.args.words.now) =
    subst (λ (k : QueryKind). AreKnown (Query k) (map string_bytes c.args.words.now)) kind asks.known in
    let both : false ≡ true = c.if-not-are_known.ensures ∙ known in
    absurd cc

pub returns-in_default-read_files : goal.returns-in_default-read_files
returns-in_default-read_files c = λ asked kind asks.
    c.in_default-read_files.ensures asked.files (first_name asked.files.folder c.in-Some.folder.now (asked.text ∷ asks.own)
    (filter is_name (map string_bytes c.in-Some.behind_folder.now)) (sym asks.names ∙ c.in-Some.ensures)) asks.files

pub returns : goal.returns
returns c = (
  c.in-Some-read_own.ensures.0,
  record {
    own = filter is_name (map string_bytes c.in-Some-next_name.names.now);
    known = subst (λ (k : QueryKind). AreKnown (Query k) (map string_bytes c.args.words.now)) (sym c.in-Some-read_own.ensures.0) (sym c.if-not-are_known.ensures);
    names =
        c.in-Some.ensures ∙ (ap (λ (l : List (List ℕ)). c.in-Some.folder.now ∷ l) c.in-Some-next_name.ensures
        ∙ ap (λ (f : List ℕ). f ∷ c.in-Some-next_name.text.now ∷ filter is_name (map string_bytes c.in-Some-next_name.names.now)) c.in-Some-read_files.ensures.0);
    files = c.in-Some-read_files.ensures.1;
    says = c.in-Some-read_own.ensures.1;
  },
)
