mod Doers
