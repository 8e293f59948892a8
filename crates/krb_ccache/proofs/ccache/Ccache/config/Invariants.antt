use Rattle.krb_ccache.proofs.Cited.{◌≡◌, option_copied, query_of, value_among, config_of}
use Rattle.krb_ccache.proofs.ccache.Ccache.config.Given as goal

-- a look-up in the rest gives what a look-up in all gives
abbrev pub invariant-loop-credential : goal.invariant-loop-credential
invariant-loop-credential g l = value_among (query_of l.self.state l.key (option_copied l.principal)) l.credential-iterator ≡ config_of l.self.state l.key (option_copied l.principal)
