-- What words ask of a server: one thing at most, and no command.
use Rattle.std.proofs.Common.{◌≡◌, ℕ, List, [], ◌∷◌, Option, codes, refl, sym, ap, subst, ◌∙◌}
use Rattle.std.specs.Option.{MatchOption}
use Rattle.dm_words.specs.Options.{file_options, start_options}
use Rattle.dm_words.specs.Queries.{kind_of, word_of}
use Rattle.dm_words.specs.ServerAsked.{live_of}
use Rattle.dm_words.specs.Serving.{AsksLive, AsksNew, AsksNoServer, AsksServer, LiveAsked, ServerAsked, ServeOf, BeginOf, TextOf}
use Rattle.dm_words.specs.Words.{AreKnown, AsksNothing, RunOf, CheckOf, GenOf, QueryOf}
use Rattle.dm_words.specs.declared.options.Kind.TheVariants.{Run}
use Rattle.dm_words.specs.declared.options.QueryKind.{QueryKind}
use Rattle.dm_words.specs.declared.options.QueryKind.TheVariants as kind
use Rattle.dm_words.specs.declared.serve.LiveWords.{LiveWords}
use Rattle.dm_words.proofs.OneCommand.{boards_one, differ, files_one, first_name, later_names, option_one, run_is}

server_is : (x y : ServerAsked) → x.run ≡ y.run → x.store ≡ y.store → x ≡ y
server_is x y run store = ap (λ v. record x { run = v }) run ∙ ap (λ v. record y { store = v }) store

server_one : (words : List (List ℕ)) (x y : ServerAsked) → AsksServer words x → AsksServer words y → x ≡ y
server_one words x y p q =
    let names = sym p.names ∙ q.names in
    let behind = later_names x.run.files.folder y.run.files.folder (x.store ∷ x.run.feeds) (y.store ∷ y.run.feeds) names in
    server_is x y
    (run_is x.run y.run
    (files_one words x.run.files y.run.files
    (first_name x.run.files.folder y.run.files.folder (x.store ∷ x.run.feeds) (y.store ∷ y.run.feeds) names) p.files q.files)
    (later_names x.store y.store x.run.feeds y.run.feeds behind)
    (option_one _ _ _ _ words x.run.batch y.run.batch p.batch q.batch)
    (option_one _ _ _ _ words x.run.workers y.run.workers p.workers q.workers)
    (boards_one words x.run.boards y.run.boards p.boards q.boards))
    (first_name x.store y.store x.run.feeds y.run.feeds behind)

new_one : (words : List (List ℕ)) (x y : ServerAsked) → AsksNew words x → AsksNew words y → x ≡ y
new_one [] x y p q = absurd p
new_one (word ∷ words) x y p q = server_one words x y p.1 q.1

-- no other words of a server begin with the word for a new store
not_known : (words : List (List ℕ)) → AreKnown Run (codes "--new" ∷ words) → ⊥
unfolding file_options start_options
not_known words known = cc

not_new : (words : List (List ℕ)) (x y : ServerAsked) → AsksServer words x → AsksNew words y → ⊥
not_new [] x y p q = q
not_new (word ∷ words) x y p q = not_known words (subst (λ (w : List ℕ). AreKnown Run (w ∷ words)) q.0 p.known)

pub one_live : (words : List (List ℕ)) (x y : LiveAsked) → AsksLive words x → AsksLive words y → x ≡ y
one_live [] x y p q = absurd p
one_live (word ∷ words) (ServeOf x) (ServeOf y) p q = ap ServeOf (server_one words x y p.1 q.1)
one_live (word ∷ words) (TextOf x) (TextOf y) p q = ap TextOf (server_one words x y p.1 q.1)
one_live (word ∷ words) (BeginOf x) (BeginOf y) p q = ap BeginOf (new_one words x y p.1 q.1)
one_live (word ∷ words) (ServeOf x) (BeginOf y) p q = absurd (not_new words x y p.1 q.1)
one_live (word ∷ words) (BeginOf x) (ServeOf y) p q = absurd (not_new words y x q.1 p.1)
one_live (word ∷ words) (BeginOf x) (TextOf y) p q = absurd (differ (codes "serve") (codes "text") word p.0 q.0 refl)
one_live (word ∷ words) (TextOf x) (BeginOf y) p q = absurd (differ (codes "text") (codes "serve") word p.0 q.0 refl)
one_live (word ∷ words) (ServeOf x) (TextOf y) p q = absurd (differ (codes "serve") (codes "text") word p.0 q.0 refl)
one_live (word ∷ words) (TextOf x) (ServeOf y) p q = absurd (differ (codes "text") (codes "serve") word p.0 q.0 refl)

no_word_serve : (k : QueryKind) (word : List ℕ) → word ≡ word_of k → word ≡ codes "serve" → ⊥
no_word_serve kind.Follow word p q = differ (codes "follow") (codes "serve") word p q refl
no_word_serve kind.Window word p q = differ (codes "window") (codes "serve") word p q refl
no_word_serve kind.Rules word p q = differ (codes "rules") (codes "serve") word p q refl
no_word_serve kind.Journey word p q = differ (codes "journey") (codes "serve") word p q refl

no_word_text : (k : QueryKind) (word : List ℕ) → word ≡ word_of k → word ≡ codes "text" → ⊥
no_word_text kind.Follow word p q = differ (codes "follow") (codes "text") word p q refl
no_word_text kind.Window word p q = differ (codes "window") (codes "text") word p q refl
no_word_text kind.Rules word p q = differ (codes "rules") (codes "text") word p q refl
no_word_text kind.Journey word p q = differ (codes "journey") (codes "text") word p q refl

pub no_command : (words : List (List ℕ)) (live : LiveAsked) → AsksLive words live → AsksNothing words
no_command [] live p command asks = absurd p
no_command (word ∷ words) (ServeOf x) p (RunOf y) q = differ (codes "serve") (codes "run") word p.0 q.0 refl
no_command (word ∷ words) (ServeOf x) p (CheckOf y) q = differ (codes "serve") (codes "check") word p.0 q.0 refl
no_command (word ∷ words) (ServeOf x) p (GenOf y) q = differ (codes "serve") (codes "gen") word p.0 q.0 refl
no_command (word ∷ words) (ServeOf x) p (QueryOf y) q = no_word_serve (kind_of y.query) word q.0 p.0
no_command (word ∷ words) (BeginOf x) p (RunOf y) q = differ (codes "serve") (codes "run") word p.0 q.0 refl
no_command (word ∷ words) (BeginOf x) p (CheckOf y) q = differ (codes "serve") (codes "check") word p.0 q.0 refl
no_command (word ∷ words) (BeginOf x) p (GenOf y) q = differ (codes "serve") (codes "gen") word p.0 q.0 refl
no_command (word ∷ words) (BeginOf x) p (QueryOf y) q = no_word_serve (kind_of y.query) word q.0 p.0
no_command (word ∷ words) (TextOf x) p (RunOf y) q = differ (codes "text") (codes "run") word p.0 q.0 refl
no_command (word ∷ words) (TextOf x) p (CheckOf y) q = differ (codes "text") (codes "check") word p.0 q.0 refl
no_command (word ∷ words) (TextOf x) p (GenOf y) q = differ (codes "text") (codes "gen") word p.0 q.0 refl
no_command (word ∷ words) (TextOf x) p (QueryOf y) q = no_word_text (kind_of y.query) word q.0 p.0

pub live_same : (words others : List (List ℕ)) (r : Option LiveWords) → words ≡ others
    → MatchOption r (AsksNoServer others) (λ live. AsksLive others (live_of live))
    → MatchOption r (AsksNoServer words) (λ live. AsksLive words (live_of live))
live_same words others r is h = rw is h
